-- Laws of the calls. `endings` rests on Acting (how a contract is met) and Verdicts (how the tests of a call come out).
pub mod Answers
pub mod Verdicts
pub mod Acting
pub mod Checks
pub mod Handles
pub mod Exits
pub mod Viewing
pub mod Beginning
pub mod Rooms
pub mod Writing
pub mod Judged
pub mod Granting
