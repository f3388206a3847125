pub mod Treaty
pub mod Losses
pub mod Ranges
