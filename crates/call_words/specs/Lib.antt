pub mod Given
pub mod Session
pub mod History
