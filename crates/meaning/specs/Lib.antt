-- The meaning of document 01 over an abstract store: what each call replies and makes of it, what a sound store is, and
-- the same point by point, with the laws that tie the two. Rests on the crate `types`.
pub mod Lists
pub mod Store
pub mod Points
pub mod Outcomes
pub mod Edits
pub mod Locking
pub mod Ending
pub mod Records
pub mod Calls
pub mod Sound
pub mod Pointwise
pub mod SoundFacts
pub mod Causes
pub mod Order
pub mod Laws
pub mod After
pub mod Contract
pub mod Session
pub mod OldTable
pub mod JoinedRows
