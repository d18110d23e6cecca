-- What a pass along a record's locks keeps and tests. Rests on the crate `meaning`.
pub mod Sweep
