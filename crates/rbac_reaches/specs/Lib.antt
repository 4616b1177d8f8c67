pub mod Matched
pub mod Reaches
pub mod Spans
pub mod Wildcards
