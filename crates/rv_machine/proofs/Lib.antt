pub mod Narrow
pub mod Products
pub mod ZeroRegister
pub mod Changes
pub mod Quotients
