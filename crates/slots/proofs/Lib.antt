-- Laws of the changes of a slot: its accesses (Accesses, Refills), and where one is found (Finds). Rests on the laws of
-- `changes`.
pub mod Accesses
pub mod Finds
pub mod Refills
