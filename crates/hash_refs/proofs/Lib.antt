pub mod RefLaws
