pub mod Told
pub mod Picks
pub mod Chosen
pub mod Places
