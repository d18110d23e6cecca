-- What a change makes of well-formed words. Rests on the crates `types`, `meaning`, `chains` and `tables`.
pub mod Becomes
pub mod Freed
pub mod Widened
