pub mod Trees
pub mod Answers
pub mod Inside
pub mod Reach
pub mod Figure
