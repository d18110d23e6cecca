-- How a desk's answers are told by numbers, and the laws of the session's numbers. Rests on `desk` and `codes`.
pub mod Telling
pub mod Laws
