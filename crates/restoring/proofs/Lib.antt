pub mod RestoringLemmas
