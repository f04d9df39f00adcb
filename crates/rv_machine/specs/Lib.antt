pub mod Words
pub mod Registers
pub mod Instructions
pub mod Machine
pub mod Laws
pub mod Examples
