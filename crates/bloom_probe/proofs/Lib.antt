pub mod BuildLaws
pub mod FieldLaws
pub mod InsideLaws
pub mod ProbeLaws
pub mod Promises
pub mod Search
pub mod StartLaws
