pub mod Outcome
pub mod Allocation
pub mod Bytes
pub mod Texts
pub mod Calls
pub mod Laws
