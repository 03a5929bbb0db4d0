-- Theorems about the definitions.
pub mod Run
