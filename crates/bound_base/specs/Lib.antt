pub mod Ending
pub mod Image
pub mod Limits
pub mod Names
pub mod Outside
pub mod Put
pub mod Reserved
pub mod formers
