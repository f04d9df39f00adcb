pub mod Elements
pub mod Numbers
pub mod Grammar
pub mod Reading
pub mod View
pub mod Laws
