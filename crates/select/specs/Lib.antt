pub mod Told
pub mod Avoided
pub mod Selection
pub mod Inside
