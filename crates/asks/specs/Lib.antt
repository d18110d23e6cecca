-- What the many views promise, and what that implies. Rests on the crates `types`, `meaning`, `tables`, `history` and
-- `encoding`.
pub mod Views
pub mod Laws
