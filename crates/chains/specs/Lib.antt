-- Singly linked chains of rows in a list of words: lists of rows, walks, tables, the partition of a table's rows,
-- changes of two chains. Rests on nothing.
pub mod Lists
pub mod Walk
pub mod Table
pub mod Cursor
pub mod Partition
pub mod Checked
pub mod Change
pub mod Walker
