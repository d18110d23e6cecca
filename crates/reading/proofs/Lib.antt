-- Laws of Read: its returns, and how its contract is met. Rests on the laws of `calls`.
pub mod ReadExits
pub mod Reading
