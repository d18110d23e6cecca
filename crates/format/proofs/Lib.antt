-- Laws of Format: the steps of the code, the links of free rows, and that formatted words are sound and mean the fresh
-- store. Rests on the laws of `meaning`, `chains` and `tables`.
pub mod Laying
pub mod Links
pub mod Formatted
