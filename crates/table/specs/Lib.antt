-- Definitions: what a reader must believe, in the specification's order.
pub mod Arrays
pub mod State
pub mod Updates
pub mod Decode
pub mod Follow
pub mod Numbers
pub mod Answer
pub mod Find
pub mod Done
pub mod Take
pub mod Store
pub mod Enter
pub mod Relabel
pub mod Delete
pub mod New
pub mod Record
pub mod Retrieve
pub mod Check
pub mod Calls
pub mod Sound
pub mod Table
-- What is proved of them.
pub mod theory
