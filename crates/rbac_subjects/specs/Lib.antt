pub mod Bound
pub mod Keyed
pub mod Least
pub mod Living
pub mod Naming
