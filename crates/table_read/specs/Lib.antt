-- Words of contracts between functions.
pub mod Places
pub mod Steps
pub mod BlockSlots
pub mod Rows
-- What is proved of them.
pub mod theory
