pub mod PlanTies
pub mod PlanWordLaws
pub mod Promises
