pub mod NativeTypes
pub mod Grammar
pub mod Written
pub mod Reading
pub mod Places
pub mod Laws
