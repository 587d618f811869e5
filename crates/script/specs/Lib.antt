pub mod Lines
pub mod Reads
pub mod Replies
pub mod Back
