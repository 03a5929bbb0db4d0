-- The claims.
pub mod Claim
pub mod Numbers
