-- What a chart reader answers, and what that implies. Rests on the crates `types`, `meaning`, `store` and `history`.
pub mod Seen
pub mod Laws
