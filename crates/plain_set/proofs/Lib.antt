-- What is proved of the definitions in specs/ by means of the table's state: that the table is the plain set, and what follows from it.
pub mod Refusals
pub mod Lists
pub mod Agree
pub mod Stored
pub mod Longer
pub mod StateSteps
pub mod NumberSteps
pub mod NumberCalls
pub mod Start
pub mod Nth
pub mod Relabel
