-- Laws of the check: the clauses that it tests, in their order, are those of `sound_words`. Rests on the laws of
-- `clauses` and `tables`.
pub mod Whole
