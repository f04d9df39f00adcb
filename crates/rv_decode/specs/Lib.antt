pub mod Fields
pub mod Formats
pub mod Encoding
pub mod Decoding
pub mod Lengths
pub mod Laws
pub mod Examples
