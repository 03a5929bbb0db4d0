-- Laws that only the proofs of this crate use.
mod Zeros
mod StepLaws
mod Marks
mod Trails
mod Doubles
mod Runs
mod ListLaws
mod Sound
mod Answers
