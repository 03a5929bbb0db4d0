pub mod Places
pub mod Reads
pub mod Rows
pub mod Walks
pub mod Lasts
pub mod BlockSlots
pub mod Finds
pub mod Scans
