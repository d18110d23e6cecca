-- The layout of document 01: where words lie, the abstract store that words say, and sound words. Rests on the crates
-- `types`, `meaning` and `chains`.
pub mod Layout
pub mod Rows
pub mod Decode
pub mod Words
pub mod Walked
pub mod Views
