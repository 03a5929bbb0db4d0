-- What is written for an address is its one canonical text.
pub mod Canonical
