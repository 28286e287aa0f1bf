-- The theory of the search, which the proofs of the functions cite.
pub mod Order
pub mod OneAlternate
pub mod Trail
pub mod Theory
pub mod Grow
pub mod Tables
pub mod Hops
pub mod Back
pub mod Repeats
pub mod Walking
pub mod Least
pub mod Finish
pub mod Sides
pub mod Scanning
pub mod AnswerLaws
pub mod Unique
