pub mod Answer
pub mod SessionWords
pub mod Ties
