-- A desk's session as numbers, and what a caller from another language hears of a desk. Rests on `codes` and `desk`.
pub mod Sessions
pub mod Laws
