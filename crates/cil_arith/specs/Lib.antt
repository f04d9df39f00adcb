pub mod Arithmetic
pub mod Comparisons
pub mod Conversions
pub mod Examples
pub mod Kinds
pub mod Laws
pub mod Targets
