pub mod Refusals
pub mod Determined
pub mod Reasons
pub mod Shown
