-- Definitions of a status ledger: Book is paper 01's ledger, Answer its numbers and values, Agree is how the code's stands for it.
pub mod Book
pub mod Answer
pub mod Agree
