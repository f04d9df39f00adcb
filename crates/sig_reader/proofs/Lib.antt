pub mod Readers
pub mod NumberReaders
pub mod ModifierReaders
pub mod TypeReaders
pub mod Lists
pub mod Wholes
pub mod Compressed
