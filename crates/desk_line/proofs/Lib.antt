pub mod LineLaws
pub mod NumberLaws
pub mod TextLaws
pub mod AnswerLaws
pub mod TreeLineLaws
pub mod InputLaws
pub mod Unique
pub mod Vectors
