pub mod Weights
pub mod Elements
pub mod Heap
pub mod Making
pub mod Lending
pub mod Laws
