pub mod Lines
pub mod Numbers
pub mod Texts
pub mod Shown
pub mod Answers
pub mod TreeLines
