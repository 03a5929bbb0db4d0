-- Words of private contracts.
pub mod RecordSteps
