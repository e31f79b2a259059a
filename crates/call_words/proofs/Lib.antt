pub mod Unchanged
pub mod Unfit
pub mod Asked
