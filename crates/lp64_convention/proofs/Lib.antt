pub mod Patterns
pub mod Widened
