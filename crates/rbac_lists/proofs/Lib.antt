pub mod AllSets
pub mod LastGiven
pub mod NoGroups
pub mod SomeSubject
pub mod Walks
pub mod WideLemmas
