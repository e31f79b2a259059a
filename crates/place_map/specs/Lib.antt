-- Definitions of the maps' bits.
pub mod Bit
