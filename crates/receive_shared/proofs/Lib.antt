pub mod AdvanceLaws
pub mod JoinedLaws
pub mod SharedLaws
