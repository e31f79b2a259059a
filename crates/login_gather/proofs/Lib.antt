pub mod Pieces
pub mod Area
