pub mod Decided
pub mod Deciding
pub mod RuleLists
pub mod Running
