-- What is printed. Rests on the crates `replies` and `texts`.
pub mod Shown
