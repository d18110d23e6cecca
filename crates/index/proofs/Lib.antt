-- Laws of the index. Rests on specs.Index and the crate `meaning`.
pub mod Says
pub mod Unknown
pub mod Touching
pub mod Calls
pub mod Noting
pub mod Rows
