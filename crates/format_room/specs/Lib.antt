-- The room that a Format of a script has. Rests on the crates `types`, `meaning` and `tables`.
pub mod Room
