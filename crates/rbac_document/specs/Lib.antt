pub mod Document
pub mod LeastDocument
pub mod Names
