-- Laws of the script program: what an answered line says of the words. Rests on specs/.
pub mod Saying
