pub mod Low
pub mod Clearing
pub mod Ends
