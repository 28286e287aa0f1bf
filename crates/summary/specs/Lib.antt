pub mod Counts
pub mod Refusals
pub mod Inside
pub mod Told
pub mod Answers
pub mod Promises
