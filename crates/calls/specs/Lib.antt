-- What the calls on sound words promise: the contract, what a grant is, and the parts of a call. Rests on the crates
-- `types`, `meaning` and `tables`.
pub mod Contract
pub mod Grants
pub mod Parts
pub mod Checks
