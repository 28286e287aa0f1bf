pub mod NumberLaws
pub mod StepLaws
pub mod NextLaws
pub mod DeliveryLaws
pub mod ToldLaws
pub mod Unique
