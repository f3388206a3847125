pub mod Treaties
pub mod Cede
pub mod Event
