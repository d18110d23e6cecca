-- Laws of the rows of replies and of calls, and of the kinds of calls. Rests on specs/Encoding.
pub mod Rows
pub mod Decoding
