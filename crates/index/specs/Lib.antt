-- What an index says of a store, and what its changes keep. Rests on the crates `types` and `meaning`.
pub mod Index
pub mod Entries
