pub mod Numbers
pub mod Readers
pub mod Grammar
pub mod Written
