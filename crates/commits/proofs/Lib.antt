-- Laws of Commit: its returns, and how its contract is met. Rests on the laws of `endings` and `calls`.
pub mod CommitActs
pub mod CommitExits
