pub mod Texts
pub mod Inline
pub mod Laws
