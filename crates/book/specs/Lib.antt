-- Definitions of a session on paper. Read Book (paper 01's book and its rules), then Events (a list of calls, and what the book answers
-- to it); then Effects, Commands and Statuses, the notions of demand 3, and Demand, which names no book. Tasks has
-- the calls of one task. Starred has paper 01's starred cases.
pub mod Book
pub mod Events
pub mod Effects
pub mod Commands
pub mod Statuses
pub mod Demand
pub mod Tasks
pub mod Starred
