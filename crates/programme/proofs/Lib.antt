pub mod Rates
pub mod Bounds
pub mod Faults
pub mod Places
pub mod Validity
pub mod Lawful
pub mod Corners
