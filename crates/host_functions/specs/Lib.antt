pub mod HostFunctions
pub mod Laws
