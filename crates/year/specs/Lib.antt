pub mod Tiers
pub mod Event
pub mod Statement
pub mod Standing
pub mod Run
pub mod Ledger
pub mod History
