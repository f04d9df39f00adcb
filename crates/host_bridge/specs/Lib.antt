pub mod Places
pub mod SymbolRun
pub mod SymbolParts
pub mod Laws
