-- Definitions: what a reader must believe.
pub mod Row
pub mod Pages
pub mod Answers
pub mod Claim
-- Words of private contracts.
pub mod Steps
-- What is proved of them.
pub mod theory
