pub mod EventPlaces
pub mod EntryWords
pub mod EventChanges
pub mod EventWants
