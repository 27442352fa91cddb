pub mod CountLaws
pub mod GoingLaws
