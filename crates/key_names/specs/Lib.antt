pub mod Candidates
pub mod Spelling
