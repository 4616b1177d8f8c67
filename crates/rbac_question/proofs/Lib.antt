pub mod Ends
pub mod Named
pub mod Questions
pub mod Texts
pub mod TypeWords
