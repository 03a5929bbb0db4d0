-- The words of the loop's contracts.
pub mod World
pub mod Loop
