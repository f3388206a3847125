pub mod Sums
pub mod Each
pub mod Chains
pub mod Places
