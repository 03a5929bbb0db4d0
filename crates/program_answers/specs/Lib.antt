-- Definitions: what a reader must believe.
pub mod Program
pub mod Outcome
pub mod Answer
-- Words that only contracts between the program's parts use.
pub mod Steps
-- What is proved of them.
pub mod theory
