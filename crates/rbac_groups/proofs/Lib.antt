pub mod ByUser
pub mod Listing
pub mod NoneGiven
pub mod Unchanged
