-- Definitions: what a reader must believe.
pub mod TextCalls
pub mod Asked
pub mod Canonical
-- Words of private contracts.
pub mod Admits
-- What is proved of them.
pub mod theory
