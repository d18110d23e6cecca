-- What a line is, and what it prints. Rests on the crates `types` and `texts`.
pub mod Lines
pub mod Shown
