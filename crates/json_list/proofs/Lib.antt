pub mod Numbers
pub mod Values
pub mod Lean
pub mod Puts
pub mod Ahead
pub mod Walks
pub mod Whole
pub mod OnePass
