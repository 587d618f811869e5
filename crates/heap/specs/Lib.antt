pub mod Owned
pub mod Sizes
pub mod FreeList
pub mod Kept
pub mod State
pub mod Lending
