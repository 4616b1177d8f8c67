pub mod Adding
pub mod AllNear
pub mod Gathering
pub mod InOrder
pub mod LackingMember
pub mod NamedOf
pub mod OfTarget
pub mod Parts
