pub mod NumberLaws
pub mod LengthLaws
pub mod UsableLaws
pub mod PickLaws
pub mod Promises
pub mod PlaceLaws
pub mod ToldLaws
pub mod Unique
