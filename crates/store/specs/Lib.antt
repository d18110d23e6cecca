-- What the public calls of the store promise of the words that they are lent. Rests on Contract of the crate `meaning`.
pub mod Promises
