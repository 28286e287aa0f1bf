pub mod MarkLaws
pub mod LaidLaws
pub mod LayLaws
pub mod OneTable
pub mod Unique
