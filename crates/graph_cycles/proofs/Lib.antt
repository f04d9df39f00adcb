pub mod Chained
pub mod Closing
pub mod Ranges
pub mod Searching
pub mod Walks
