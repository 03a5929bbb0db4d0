-- What is proved of the answers: a legal text is taken, and what is taken is legal.
pub mod Takes
-- Laws that only the proofs of this crate use.
mod Tests
mod Ends
