-- Laws that the proofs of `r2t` and `r2t_ok` cite.
pub mod Laws
