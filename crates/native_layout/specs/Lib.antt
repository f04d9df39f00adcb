pub mod Struct
pub mod Shapes
pub mod Answer
pub mod Placed
pub mod Laws
pub mod OverlapLaws
pub mod Ruled
pub mod Outlines
