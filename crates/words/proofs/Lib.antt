pub mod Flags
pub mod Fit
pub mod Spread
