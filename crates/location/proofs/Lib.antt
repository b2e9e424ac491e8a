pub mod PrefixLemmas
pub mod BeginLemmas
pub mod ChangeLemmas
pub mod CancelLemmas
pub mod UpdateLemmas
