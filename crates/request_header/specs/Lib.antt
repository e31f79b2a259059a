pub mod Request
pub mod Kind
pub mod Verdicts
