-- The fields of a script line, the kinds of field that calls have, what reading one promises, and laws. Rests on
-- Text of the crate `texts`.
pub mod Fields
pub mod Kinds
pub mod Reads
pub mod Laws
