-- What Format makes of the words that it is lent. Rests on the layout of the crate `tables`.
pub mod Format
