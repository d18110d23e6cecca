-- What callers of the store say and hear, as numbers: the limits of document 01, points, handles, values and replies.
-- Rests on nothing.
pub mod Limits
pub mod Values
pub mod Replies
pub mod Numbers
