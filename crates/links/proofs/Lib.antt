pub mod BitLaws
pub mod TableLaws
pub mod NumberLaws
pub mod LinkLaws
pub mod Unique
