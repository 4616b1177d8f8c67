pub mod App
pub mod Faults
pub mod Flags
pub mod HolderOptions
pub mod MatrixOptions
pub mod Meaning
pub mod Values
