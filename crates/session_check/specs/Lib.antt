pub mod SessionGood
