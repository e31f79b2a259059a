-- Laws that the proof of `data_out` cites.
pub mod Laws
