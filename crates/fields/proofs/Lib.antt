-- Laws of fields: digits and numbers, and the laws of specs/Laws. Rests on Text of the crate `texts`.
pub mod Digits
pub mod Cuts
pub mod Laws
