-- The planning desk: its functions follow its programs, and its laws. Rests on `layers` and
-- on the laws of `meaning`.
pub mod Leaves
pub mod Following
pub mod Cases
pub mod Refusals
pub mod Intervals
pub mod Laws
pub mod Made
pub mod Examples
