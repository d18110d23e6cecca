-- Laws of the tables. Callers rest on Chained (`any`, `all` and `find` over the rows of a chain), Decoded (parts of the
-- decoded store), Builds (tests over all records or slots), Bridge (`formed` and `Well`) and Rooms (rows in use).
pub mod Header
pub mod Places
pub mod Builds
pub mod Decoded
pub mod Chained
pub mod Bridge
pub mod Rooms
