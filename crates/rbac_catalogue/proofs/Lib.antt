mod Least
pub mod Meaning
mod Scoping
