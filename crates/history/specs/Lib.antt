-- Demand 3: what the plain run hears, and the claim over the abstract store and over what the store is lent; charts as
-- moments of the plain run; the old table of locks over words; examples. Rests on the crates `types`, `meaning`,
-- `serial`, `chains`, `tables` and `format`.
pub mod Heard
pub mod Statement
pub mod Words
pub mod Examples
pub mod Handles
pub mod StoreWords
pub mod OldTable
pub mod Charts
pub mod WordSteps
pub mod ExampleWords
pub mod ChartExamples
