pub mod LineSizes
pub mod LinePasses
pub mod Pieced
pub mod Least
