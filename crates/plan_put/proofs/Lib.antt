pub mod MarkedLaws
pub mod PartLaws
