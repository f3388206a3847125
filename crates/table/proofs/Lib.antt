pub mod LineForms
pub mod LayerParts
pub mod RatePass
pub mod LinePass
pub mod Tables
pub mod Writes
