pub mod Faults
pub mod UniverseSets
pub mod Made
pub mod Sets
pub mod Stems
pub mod Uniting
