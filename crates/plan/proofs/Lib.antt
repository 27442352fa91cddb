pub mod CheckLaws
pub mod OverLaws
