pub mod Joining
pub mod Meeting
pub mod Ways
