-- Theorems about the definitions, and about reading and writing together.
pub mod Bounds
pub mod Texts
pub mod Mapped
pub mod RoundTrip
pub mod Fields
pub mod TextCalls
pub mod Followed
pub mod Computing
pub mod Examples
