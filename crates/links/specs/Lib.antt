pub mod Table
pub mod Told
pub mod Answers
