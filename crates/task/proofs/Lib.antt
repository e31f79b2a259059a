-- Laws that the proofs of more than one function cite: of the ring in which the open R2Ts lie.
pub mod Ring
