-- What the batch promises, and what that implies. Rests on the crates `encoding`, `store` and `history`.
pub mod Runs
pub mod Laws
