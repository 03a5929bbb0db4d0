-- Definitions: what a reader must believe.
pub mod Reply
