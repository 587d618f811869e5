pub mod Sums
pub mod Stepping
pub mod Memories
pub mod Running
pub mod Loading
pub mod Stocking
