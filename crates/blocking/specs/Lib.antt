-- What the searches of a record's points find. Rests on the crates `types`, `meaning` and `tables`.
pub mod Search
