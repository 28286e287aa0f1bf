pub mod Told
pub mod Steps
pub mod Delivery
pub mod Inside
