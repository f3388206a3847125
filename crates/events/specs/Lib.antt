pub mod Event
pub mod Form
pub mod Rules
pub mod Read
