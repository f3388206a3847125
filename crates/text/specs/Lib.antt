pub mod Bytes
pub mod Buffer
pub mod Number
pub mod Template
pub mod Lines
pub mod Word
pub mod Feed
pub mod Begin
