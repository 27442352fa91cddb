pub mod HeadLaws
pub mod LeftLaws
