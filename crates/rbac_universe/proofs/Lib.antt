pub mod Flattened
pub mod SetLemmas
pub mod Once
pub mod OneMore
pub mod OneUniverse
pub mod StemLists
pub mod Targets
