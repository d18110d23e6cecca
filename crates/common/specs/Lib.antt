-- What a commit asks of the accesses of an edit. Rests on the crates `types` and `meaning`.
pub mod Commit
pub mod Ends
