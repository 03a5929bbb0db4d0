-- Words of private contracts.
pub mod DeleteSteps
