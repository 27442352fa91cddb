pub mod ApartLaws
pub mod CountLaws
pub mod InsertLaws
pub mod JoinLaws
pub mod MergeLaws
pub mod OrderLaws
pub mod PutLaws
pub mod RankLaws
