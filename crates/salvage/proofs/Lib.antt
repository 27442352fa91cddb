pub mod AnswerLaws
pub mod NewTableLaws
pub mod Promises
pub mod PutLaws
pub mod SalvagedLaws
