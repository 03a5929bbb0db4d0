-- Laws that only the proofs of this crate use.
mod Longer
mod Begin
mod Move
mod Toward
mod LengthLaws
mod SurveyLaws
