pub mod TaskWords
