pub mod Seeks
pub mod SoughtLaws
pub mod Labels
pub mod Helds
