pub mod ListLaws
pub mod FirstPlaces
pub mod ListCounts
