pub mod Brought
pub mod SameYear
pub mod Shown
pub mod Multiset
pub mod Redated
pub mod Apart
pub mod Used
