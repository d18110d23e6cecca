-- Laws of the clauses as the check tests them: that they are the clauses of document 01. Rests on the laws of `meaning`
-- and `tables`.
pub mod Steps
pub mod Counting
pub mod Falling
pub mod Passing
pub mod Reading
pub mod Backing
pub mod Stamping
pub mod Versions
pub mod Records
pub mod Slots
pub mod Edits
pub mod Marking
pub mod Marks
