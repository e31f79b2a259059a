-- Laws of the window: the bits of its maps, the slots of its places, what its steps share, and the places after a logout.
pub mod Bits
pub mod PlaceSlot
pub mod Steps
pub mod Left
