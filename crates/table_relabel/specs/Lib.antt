-- Words of private contracts.
pub mod Relabels
