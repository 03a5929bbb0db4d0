-- The claim.
pub mod Claim

-- What is proved of it.
