pub mod LineParts
pub mod LineEnds
pub mod InLine
pub mod Faults
pub mod LossForms
pub mod Reading
pub mod Corners
