-- Definitions of the slots that headers are kept in.
pub mod Slot
