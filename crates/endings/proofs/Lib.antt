-- Laws of Settle, Abort and Commit: the loops over records and accesses, and how an edit ends. Rests on the crates
-- `changes`, `lookups`, `index` and `calls`.
pub mod Folds
pub mod Saving
pub mod Giving
pub mod Leaving
pub mod EndExits
pub mod AccessLoop
pub mod Besides
pub mod FreeLoop
pub mod Settling
pub mod Ended
pub mod EndActs
pub mod Noted
