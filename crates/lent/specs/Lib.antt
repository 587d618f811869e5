pub mod Sizes
pub mod Free
pub mod Lying
