pub mod Checks
pub mod Arrived
pub mod Accepted
