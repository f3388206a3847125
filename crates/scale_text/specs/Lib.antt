pub mod Read
pub mod Days
