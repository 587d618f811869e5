pub mod Given
pub mod Visits
