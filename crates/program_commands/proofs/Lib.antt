-- Laws that only the proofs of this crate use.
mod Places
mod Labels
mod Parses
