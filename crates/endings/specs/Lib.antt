-- The steps and the parts of the calls that end an edit or purge. Rests on the crates `types`, `meaning`, `tables` and
-- `index`.
pub mod Steps
pub mod Parts
pub mod Frees
