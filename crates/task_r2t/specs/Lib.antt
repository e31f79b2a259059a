pub mod R2T
