-- Definitions: what a reader must believe.
pub mod Key
-- What is proved of them.
pub mod theory
