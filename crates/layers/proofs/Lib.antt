-- Layers above the store: the contract from the calls made, and demand 3. Rests on `history`.
pub mod Layers
pub mod Serial
