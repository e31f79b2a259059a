pub mod Small
pub mod PastWindow
pub mod PastConns
pub mod PastNext
pub mod Renewed
pub mod Sentences
pub mod Tasks
pub mod Starred
