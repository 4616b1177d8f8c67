pub mod ByUser
pub mod Memberships
