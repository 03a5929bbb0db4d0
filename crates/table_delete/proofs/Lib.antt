-- Laws that only the proofs of this crate use.
mod DeleteLaws
mod RemoveLaws
mod KeyLaws
