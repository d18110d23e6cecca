-- Laws of Purge: its returns, and how its contract is met. Rests on the laws of `endings`, `calls` and `changes`.
pub mod PurgeActs
pub mod PurgeExits
