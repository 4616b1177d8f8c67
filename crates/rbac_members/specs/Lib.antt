pub mod Candidates
pub mod Listings
pub mod Members
pub mod Told
