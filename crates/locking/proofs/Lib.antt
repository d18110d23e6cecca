-- Laws of Lock: its returns, and how its contract is met. Rests on the laws of `calls`.
pub mod LockExits
pub mod Locking
