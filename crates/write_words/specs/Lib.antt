pub mod WriteWords
