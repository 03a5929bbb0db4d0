-- Theorems about the definitions.
pub mod Lines
pub mod Examples
