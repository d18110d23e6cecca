-- The cases of a refusal's number, how a reply is told, and the laws of the numbers of replies. Rests on specs/.
pub mod Cases
pub mod Telling
pub mod Laws
