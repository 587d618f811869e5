pub mod Counts
pub mod Images
pub mod Lists
pub mod Pages
