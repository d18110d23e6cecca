-- Layers above the store: what each does is a program of calls, and so part of a history. Rests on `history`.
pub mod Programs
pub mod Layers
pub mod Serial
