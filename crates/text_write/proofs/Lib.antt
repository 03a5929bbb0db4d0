-- Laws that only the proofs of this crate use.
mod Decimals
mod Backwards
mod Groups
mod Marks
