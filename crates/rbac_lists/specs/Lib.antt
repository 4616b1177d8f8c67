pub mod Derived
pub mod Meant
pub mod Wide
