pub mod ResponseWords
