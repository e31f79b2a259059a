-- Definitions of a task's record: Record is what it keeps and its making, Steps the calls on it. The data sentences: History is a list of calls on a task,
-- Effects what each did, Notions what the list says by itself, Sentences what is claimed of it; Worked is an example.
pub mod Record
pub mod Steps
pub mod History
pub mod Effects
pub mod Notions
pub mod Sentences
pub mod Worked
