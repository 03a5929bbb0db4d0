-- Definitions: what a reader must believe.
pub mod Rebuilt
pub mod Set
pub mod Plain
pub mod Same
pub mod Holds
pub mod Nth
pub mod OwnRefusal
pub mod OnlyLabel
pub mod Numbers
-- What is proved of them.
pub mod theory
