-- Laws that only the proofs of this crate use.
mod FreeLaws
mod EndLaws
mod AppendLaws
mod EnterLaws
