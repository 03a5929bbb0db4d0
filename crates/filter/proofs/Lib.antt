-- Laws that only the proofs of this crate use.
pub mod Parts
pub mod Moves
pub mod Standing
