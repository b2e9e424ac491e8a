pub mod LogLemmas
pub mod TickLemmas
