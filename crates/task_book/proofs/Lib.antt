pub mod Tests
pub mod Past
pub mod Sentences
pub mod Worked
pub mod Bounded
