pub mod Accounts
pub mod Cases
pub mod Groups
pub mod Halving
pub mod Orderings
pub mod Reading
pub mod Texts
