pub mod Flat
pub mod Answers
pub mod Laws
