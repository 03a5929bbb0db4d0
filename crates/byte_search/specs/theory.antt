-- Laws of the definitions.
pub mod First
