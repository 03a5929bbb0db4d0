pub mod Program
pub mod Applies
pub mod Lines
pub mod Followed
