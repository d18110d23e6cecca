-- Laws of what Purge changes. Freed: the number of rows freed; Raises: the loop that raises the low ends of locks;
-- Trims: those and the rows left empty. They rest on the laws of `chains`, `tables` and `changes`.
pub mod Freed
pub mod Raises
pub mod Trims
