pub mod Bounds
pub mod Cases
pub mod Cessions
pub mod Own
pub mod Losses
pub mod EventLimit
pub mod Corners
