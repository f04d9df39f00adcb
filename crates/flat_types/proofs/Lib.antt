pub mod Levels
pub mod FieldsFound
pub mod Known
pub mod StructsFound
pub mod OutlinesFound
pub mod Integral
