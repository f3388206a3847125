pub mod Forms
pub mod Read
pub mod Write
