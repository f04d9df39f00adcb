pub mod Places
pub mod Entry
pub mod Events
pub mod EventAnswers
pub mod Laws
