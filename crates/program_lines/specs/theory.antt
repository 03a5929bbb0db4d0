-- Laws of the definitions.
pub mod Ends
