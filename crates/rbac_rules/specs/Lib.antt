pub mod Effective
pub mod Left
pub mod Runs
