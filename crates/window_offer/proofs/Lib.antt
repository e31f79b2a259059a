-- Laws of an offer.
pub mod Steps
