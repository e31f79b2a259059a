pub mod Answer
pub mod After
