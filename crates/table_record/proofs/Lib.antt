-- Laws that only the proofs of this crate use.
mod Records
mod Retrievals
