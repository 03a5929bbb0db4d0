-- Definitions: what a reader must believe, in the specification's order.
pub mod Refusal
pub mod Least
pub mod Log
pub mod Prime
pub mod Sizes
pub mod Legal
pub mod Layout
pub mod Made
pub mod Due
pub mod Reply
pub mod Proper
-- What is proved of them.
pub mod theory
