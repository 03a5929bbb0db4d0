pub mod Arms
pub mod Least
pub mod Logs
pub mod Primes
pub mod Legal
pub mod Proper
pub mod Dues
