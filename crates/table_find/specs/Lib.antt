-- Words of contracts between functions.
pub mod Seek
-- What is proved of them.
pub mod theory
