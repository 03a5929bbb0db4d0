-- What is proved of the claim on the program.
pub mod Printed
pub mod ProgramSet
