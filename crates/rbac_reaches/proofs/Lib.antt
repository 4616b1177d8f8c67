pub mod PrefixLemmas
pub mod ReachLemmas
pub mod SharedLemmas
pub mod SpanLemmas
pub mod StemLemmas
pub mod WildcardLemmas
