pub mod Reading
pub mod FieldRules
pub mod Framing
pub mod Header
