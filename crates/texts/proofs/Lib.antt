pub mod PartsLemmas
pub mod LinesLemmas
