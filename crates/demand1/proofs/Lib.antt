-- What is proved of the claim: Demand1 says it.
pub mod Kept
pub mod Demand1
