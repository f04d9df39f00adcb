pub mod StepsLaws
pub mod Parts
pub mod RunEnds
pub mod Simulations
