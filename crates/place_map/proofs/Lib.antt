-- Laws of the maps' bits.
pub mod Bits
