pub mod ViewLemmas
pub mod StepLemmas
pub mod RowLemmas
pub mod ListLemmas
pub mod KeyLemmas
