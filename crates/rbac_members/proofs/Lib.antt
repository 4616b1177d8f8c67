pub mod CandidateLemmas
pub mod Firsts
pub mod GroupPlaces
pub mod Labels
pub mod Listed
pub mod OneMembers
pub mod Orders
