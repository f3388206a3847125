pub mod LossRead
pub mod LineRead
