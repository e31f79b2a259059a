-- Laws of a take.
pub mod Steps
