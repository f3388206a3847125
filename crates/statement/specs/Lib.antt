pub mod LineKinds
pub mod TreatyLines
