pub mod FirstSection
