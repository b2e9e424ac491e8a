pub mod Views
pub mod KeyLemmas
pub mod IndexLemmas
pub mod ViewLemmas
pub mod SetLemmas
