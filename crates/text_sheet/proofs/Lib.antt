-- Theorems that rest on which records stand on which page.
pub mod Pages
pub mod Sheet
-- Laws that only the proofs of this crate use.
mod Fills
mod PageLaws
mod CallLaws
