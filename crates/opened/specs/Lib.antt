-- What an open session is, what its calls promise, and that a list of them is a history. Rests on the crates `tables`,
-- `index`, `history` and `store`.
pub mod Opened
pub mod Laws
