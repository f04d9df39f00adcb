pub mod Elf
pub mod Refusals
pub mod Loads
pub mod Names
