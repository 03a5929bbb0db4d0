-- Laws that only the proofs of this crate use.
mod Puts
mod Texts
mod Verbs
