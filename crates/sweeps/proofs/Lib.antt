-- Laws of the pass along a record's locks. Rests on Sweep and on the laws of `meaning`.
pub mod Reaching
pub mod Agreeing
