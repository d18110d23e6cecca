-- How a public call and `perform` meet their contracts from those of the calls below. Rests on specs/Promises.
pub mod Doing
pub mod Performing
pub mod Slots
