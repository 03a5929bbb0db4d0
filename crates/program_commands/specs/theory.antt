-- Laws of the definitions.
pub mod Fields
pub mod Spaces
pub mod Labels
pub mod Asked
pub mod SpelledOut
pub mod Long
