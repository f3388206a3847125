pub mod Names
pub mod Local
pub mod Loop
pub mod Closing
