-- Theorems about the definitions.
pub mod Options
pub mod Bytes
pub mod Numerals
pub mod Joined
pub mod Splits
pub mod Cuts
pub mod Dotted
pub mod Answers
