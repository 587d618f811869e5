pub mod Settling
pub mod Climbing
pub mod Crowning
pub mod Planting
pub mod Inserting
pub mod Course
pub mod Lying
