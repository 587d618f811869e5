pub mod Asks
pub mod Putting
pub mod Sharing
pub mod Shrinking
pub mod Turning
pub mod Tiers
pub mod Deleting
