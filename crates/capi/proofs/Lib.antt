pub mod SaidOn
pub mod Tied
