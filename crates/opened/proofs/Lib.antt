-- How the calls of a session meet their contracts, and the laws. Rests on the contracts of the calls and of `index`.
pub mod Within
pub mod Laws
