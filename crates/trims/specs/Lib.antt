-- What Purge makes of well-formed words. Rests on the crates `types`, `meaning`, `tables` and `changes`.
pub mod Frees
