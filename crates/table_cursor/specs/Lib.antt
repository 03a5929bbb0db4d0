-- Definitions: what a reader must believe.
pub mod Undamaged
pub mod Ahead
pub mod Survey
-- Words of private contracts.
pub mod Steps
-- What is proved of them.
pub mod theory
