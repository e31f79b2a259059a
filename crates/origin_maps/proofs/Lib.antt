-- The laws that the proof of `with_origin` cites.
pub mod Joined
