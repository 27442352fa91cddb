pub mod BeyondLaws
pub mod BodyLaws
pub mod HeardLaws
pub mod SentLaws
pub mod SyncLaws
pub mod TestLaws
