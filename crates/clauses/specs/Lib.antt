-- The clauses of soundness as the check tests them, and the marks that it keeps meanwhile. Rests on the crate `tables`.
pub mod Clauses
pub mod Marks
pub mod Views
