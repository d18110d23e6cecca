-- The examples of specs/Examples. Rests on specs/.
pub mod Examples
