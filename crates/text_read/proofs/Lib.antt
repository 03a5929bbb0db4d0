-- What is proved of the grammar: it agrees with the reading, and how long a legal text is, and of which bytes.
pub mod Grammar
pub mod Lengths
pub mod Spaces
-- Laws that only the proofs of this crate use.
mod Table
mod Fields
mod Splits
mod Joined
mod Whole
mod Parts
