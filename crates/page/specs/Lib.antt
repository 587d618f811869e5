pub mod Balance
pub mod Entries
pub mod Kinds
pub mod Layout
pub mod Sizes
pub mod Readers
