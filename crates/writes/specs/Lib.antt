-- What a row is filled with. Rests on the crates `types` and `tables`.
pub mod Rows
