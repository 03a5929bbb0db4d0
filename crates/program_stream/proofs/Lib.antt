-- Laws that only the proofs of this crate use.
mod Turns
mod Copies
mod Rounds
