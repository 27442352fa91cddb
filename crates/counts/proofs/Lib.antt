pub mod BitLaws
pub mod CountLaws
pub mod Promises
pub mod TestedLaws
pub mod TotalLaws
pub mod WalkLaws
