-- What a script line is: the call that it names, and examples. Rests on the crate `fields`.
pub mod Calls
pub mod Examples
