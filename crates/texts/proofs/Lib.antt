-- Laws of texts: bytes put one after another, and the decimal digits of a number, which are those that the library
-- prints. Rests on specs/Parts.
pub mod Writes
pub mod Decimal
