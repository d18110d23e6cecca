-- A whole line written. Rests on specs/Shown.
pub mod Printed
