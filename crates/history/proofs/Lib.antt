-- Demand 3 for the calls of the store: each call as steps of the serial core, the theorems, charts, the old table of
-- locks, and examples. Rests on the crates `types`, `meaning`, `serial`, `tables` and `format`.
pub mod StoreSlots
pub mod EveryCall
pub mod EachRecord
pub mod Valued
pub mod Changes
pub mod CallRuns
pub mod Simple
pub mod Reading
pub mod Ending
pub mod Purging
pub mod Viewing
pub mod Theorem
pub mod Floors
pub mod OverWords
pub mod Contracts
pub mod CommitList
pub mod Examples
pub mod Handles
pub mod OverStore
pub mod OldTable
pub mod WordSteps
pub mod ExampleWords
pub mod Charts
pub mod ChartExamples
