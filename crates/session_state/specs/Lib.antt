-- Definitions of a session's state. They follow the code: Agree is how the struct and the arrays stand for a book, with the contract
-- that all calls share; After what a call leaves of the struct; Reach the connection that a call names; Limits what is read and written on it;
-- History a list of calls; Transfer the answer of a call that moves data.
pub mod After
pub mod Limits
pub mod Reach
pub mod Agree
pub mod History
pub mod Transfer
