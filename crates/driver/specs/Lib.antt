pub mod Rooms
pub mod Words
pub mod Routes
pub mod Packed
