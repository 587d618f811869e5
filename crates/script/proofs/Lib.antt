pub mod Cuts
pub mod Tables
pub mod Figures
pub mod Texts
pub mod Returns
