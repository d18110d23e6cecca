-- Laws of chains. Callers' loops rest on Walks, Loops and Turns; callers' statements on Places, Searches, Frames,
-- Entries and Rooms.
pub mod Bounded
pub mod Occurs
pub mod Walks
pub mod Stepping
pub mod Loops
pub mod Fielded
pub mod Segments
pub mod Chains
pub mod Relinks
pub mod Cells
pub mod Words
pub mod Steps
pub mod Places
pub mod Searches
pub mod Parts
pub mod Checks
pub mod Turns
pub mod Frames
pub mod Entries
pub mod Rooms
pub mod Examples
