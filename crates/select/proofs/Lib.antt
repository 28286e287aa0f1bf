pub mod AvoidedLaws
pub mod SlotLaws
pub mod HeldLaws
pub mod SelectLaws
pub mod SlotCode
pub mod OneAnswer
pub mod ToldLaws
pub mod Unique
