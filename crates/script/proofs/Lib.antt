-- Laws of the script program: how a line is collected. Rests on specs/.
pub mod Collecting
