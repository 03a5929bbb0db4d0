-- Words of private contracts, and laws.
pub mod Walk
pub mod Entries
pub mod Lists
pub mod Answers
