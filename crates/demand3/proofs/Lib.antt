-- What is proved of the claims.
pub mod KeySteps
pub mod Lent
pub mod Demand3
pub mod Numbers
pub mod OneCall
pub mod Spellings
