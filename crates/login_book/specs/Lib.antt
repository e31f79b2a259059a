-- Definitions of a login on paper. Read Keys, Book, Block and Login (paper 01's rules, from which everything is computed); then Events (a list of
-- requests and what it says by itself), Rules (which rule refuses, and what is answered otherwise) and Demand (demand 2).
pub mod Keys
pub mod Book
pub mod Block
pub mod Login
pub mod Events
pub mod Rules
pub mod Demand
