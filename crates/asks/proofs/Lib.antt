-- The many views ask by ask, and their laws. Rests on specs/, on Rows of the crate `encoding` and on the charts of
-- `history`.
pub mod Viewing
pub mod Laws
