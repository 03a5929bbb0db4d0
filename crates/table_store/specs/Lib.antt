-- Words of contracts.
pub mod Stores
pub mod Places
-- What is proved of them.
pub mod theory
