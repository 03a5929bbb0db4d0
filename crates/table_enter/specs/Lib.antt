-- Words of private contracts.
pub mod Enters
