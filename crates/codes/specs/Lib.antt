-- The numbers that tell a reply to a caller from another language, and their laws. Rests on the crates `types` and
-- `meaning`.
pub mod Codes
pub mod Laws
