-- Laws of the lookups. Slots: handles and free slots; Found: one entry; Rooms: free rows. They rest on the laws of
-- `chains` and `tables`.
pub mod Slots
pub mod Found
pub mod Rooms
