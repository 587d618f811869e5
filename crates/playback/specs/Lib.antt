pub mod Noted
pub mod Numbers
pub mod Outcomes
pub mod Planned
pub mod Played
