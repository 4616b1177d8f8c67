pub mod Lacking
pub mod Members
pub mod Named
pub mod Near
pub mod NearLines
