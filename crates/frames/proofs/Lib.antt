pub mod MessageLaws
pub mod DialogueLaws
pub mod ComponentLaws
pub mod ArgumentLaws
pub mod HeardLaws
pub mod ReadLaws
pub mod PointLaws
pub mod JudgingLaws
