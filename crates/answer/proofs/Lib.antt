pub mod Outcomes
pub mod Corners
