pub mod LinePass
pub mod ScaleBack
pub mod SameScale
pub mod Corners
