-- How a line is gathered. Rests on nothing.
pub mod Gathered
