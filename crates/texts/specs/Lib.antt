-- The bytes of words, numbers and values. Rests on the crate `types`.
pub mod Text
pub mod Parts
