-- Definitions: what a reader must believe.
pub mod Ascii
pub mod Decimal
pub mod Writing
pub mod Answers
-- Words of contracts behind `write`.
pub mod WriterSteps
-- What is proved of them.
pub mod theory
