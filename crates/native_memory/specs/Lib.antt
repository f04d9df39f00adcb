pub mod AddressSpace
pub mod Ranges
pub mod Placement
pub mod InPlace
pub mod Sound
pub mod Changes
pub mod Search
pub mod Laws
