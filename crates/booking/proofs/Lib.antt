pub mod EventBounds
pub mod Entering
pub mod Idle
pub mod Totals
pub mod EventsBooking
