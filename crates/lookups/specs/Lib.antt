-- What the lookups find: the slot of a handle, the row of an access. Rests on the crates `types`, `meaning` and
-- `tables`.
pub mod Accesses
pub mod Slots
