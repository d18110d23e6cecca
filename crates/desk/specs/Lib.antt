-- The planning desk: its calls as programs of calls of the store, its replies, and its laws. Rests on `layers`.
pub mod Replies
pub mod Cases
pub mod Desk
pub mod Laws
pub mod Made
pub mod Examples
