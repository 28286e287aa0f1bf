pub mod NumberLaws
pub mod AcceptLaws
pub mod MeetingLaws
pub mod ScanLaws
pub mod ListWalk
pub mod LengthLaws
pub mod Unique
