-- Theorems about the definitions.
pub mod Pairs
pub mod Cursors
pub mod Undamaged
