pub mod Loads
pub mod Stores
pub mod Tests
pub mod Opening
pub mod Sound
pub mod Extent
pub mod LentTiers
