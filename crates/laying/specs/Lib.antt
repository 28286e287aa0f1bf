pub mod Avoids
pub mod Laid
pub mod Answers
