-- What a program that shows calls is told of words. Rests on nothing.
pub mod Words
