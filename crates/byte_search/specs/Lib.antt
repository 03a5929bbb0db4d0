-- Definitions, which contracts cite; and, in theory, the laws that hold of them.
pub mod First
-- What is proved of them.
pub mod theory
