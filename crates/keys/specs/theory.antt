pub mod Halves
pub mod Keys
pub mod Examples
