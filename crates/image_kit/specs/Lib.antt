pub mod LibraryFile
pub mod LibraryReads
pub mod AssemblyFile
pub mod AssemblyPlaces
pub mod AssemblyReads
