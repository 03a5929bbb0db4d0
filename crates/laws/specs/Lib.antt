-- Laws by what they speak of; `Folds` has the definitions.
pub mod Folds
pub mod Cases
pub mod Tests
pub mod Sums
pub mod Lists
pub mod Passes
pub mod Options
pub mod Tables
