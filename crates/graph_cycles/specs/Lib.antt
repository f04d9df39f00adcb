pub mod Chains
pub mod Cycles
pub mod Laws
pub mod Parts
