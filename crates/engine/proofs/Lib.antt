pub mod Stating
pub mod Writing
pub mod RunLines
pub mod RunTests
pub mod LayingOut
