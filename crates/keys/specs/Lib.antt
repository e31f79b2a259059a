pub mod Judge
pub mod Promises
