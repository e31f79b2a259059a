-- Definitions of the command window: Book is paper 01's window, PlaceSlot and Agree are the code's slots and maps.
pub mod Book
pub mod PlaceSlot
pub mod Agree
