pub mod After
pub mod Sidney
pub mod Timed
pub mod Scaled
