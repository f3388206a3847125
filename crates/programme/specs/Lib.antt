pub mod Contract
pub mod Ranges
pub mod Rules
pub mod LineByLine
pub mod Valid
