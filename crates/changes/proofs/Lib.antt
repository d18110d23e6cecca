-- Laws of the changes. Callers rest on OneWord: then-edit and then-rec join two changes of one slot or record.
pub mod Apart
pub mod Parts
pub mod OneTable
pub mod OneWord
pub mod Stored
pub mod Lists
pub mod Locks
pub mod Versions
pub mod Keeping
pub mod Freeing
pub mod Besides
pub mod Joins
