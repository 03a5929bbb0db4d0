-- Words of private contracts.
pub mod NewSteps
