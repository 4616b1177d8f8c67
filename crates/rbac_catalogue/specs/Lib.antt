pub mod Catalogue
pub mod Lookups
