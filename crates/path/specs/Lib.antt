pub mod Told
pub mod Routes
pub mod Walks
pub mod Answers
pub mod Bytes
pub mod Inside
