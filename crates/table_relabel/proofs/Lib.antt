-- Laws that only the proofs of this crate use.
mod KeyLaws
mod LabelLaws
