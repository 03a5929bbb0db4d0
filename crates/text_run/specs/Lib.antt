-- Definitions: what a reader must believe, in the specification's order.
pub mod Run
pub mod Answers
pub mod Claim
-- Words that only private contracts use.
pub mod Steps
-- What is proved of them.
pub mod theory
