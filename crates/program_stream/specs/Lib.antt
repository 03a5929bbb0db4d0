-- Definitions: what a reader must believe.
pub mod Output
-- What a turn and a run of turns ensure, and the whole run of the program, which is made of these.
pub mod Steps
pub mod Run
-- What is proved of them.
pub mod theory
