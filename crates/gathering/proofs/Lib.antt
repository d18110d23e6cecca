-- One more byte of a line. Rests on specs/.
pub mod Taken
