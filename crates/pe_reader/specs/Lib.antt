pub mod Pe
pub mod Laws
