-- Definitions, which contracts cite; and, in theory, the laws that hold of them.
pub mod Field
pub mod Put
pub mod Within
pub mod Bytes
pub mod Word
-- What is proved of them.
pub mod theory
