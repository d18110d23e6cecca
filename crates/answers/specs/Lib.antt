-- What a line of a script is answered. Rests on the crates `fields`, `replies`, `store` and `format`.
pub mod Script
