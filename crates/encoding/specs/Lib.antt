-- Calls and replies as words. Rests on Codes of the crate `codes`.
pub mod Encoding
