pub mod Told
pub mod Built
pub mod Sets
pub mod Answers
