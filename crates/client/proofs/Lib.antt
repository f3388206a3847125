pub mod Given
pub mod Computed
pub mod TimedRun
pub mod ScaledRun
