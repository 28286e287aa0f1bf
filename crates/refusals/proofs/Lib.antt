pub mod ChainLaws
pub mod NumberLaws
pub mod AnswerLaws
pub mod ReasonLaws
pub mod ShownLaws
pub mod Unique
