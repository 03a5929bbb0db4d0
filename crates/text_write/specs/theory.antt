-- Theorems about the definitions.
pub mod Runs
pub mod Decimal
-- Laws behind the writer's code.
pub mod Stores
pub mod Digits
pub mod Texts
pub mod LongestRun
pub mod Mapped
pub mod Lengths
pub mod Answered
