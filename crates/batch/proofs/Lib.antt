-- The batch call by call, and its laws. Rests on specs/, on Rows of the crate `encoding` and on the charts of
-- `history`.
pub mod Running
pub mod Laws
