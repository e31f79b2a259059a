-- Laws of a logout's effect: the bits of the maps after it, and what it counts.
pub mod Counts
pub mod Effect
