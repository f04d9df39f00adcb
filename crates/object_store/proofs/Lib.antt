pub mod Kept
pub mod Parts
pub mod ElementsKept
pub mod Lending
pub mod GivesBack
pub mod Settled
pub mod Room
