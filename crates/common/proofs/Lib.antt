-- Laws of the common set: what an access allows (Common, Reach), the accesses of an edit (Fronts), the search for the
-- nearest point (Lifts) and the two ends of the set (TwoEnds). Rests on the laws of `tables` and `blocking`.
pub mod Common
pub mod Fronts
pub mod Lifts
pub mod TwoEnds
pub mod Reach
