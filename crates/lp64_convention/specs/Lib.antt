pub mod Places
pub mod Widening
pub mod Laws
