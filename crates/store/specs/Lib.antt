pub mod Memory
pub mod Steps
pub mod Fresh
pub mod Stocked
pub mod Reserve
