pub mod CheckLaws
pub mod MakeLaws
pub mod SaidLaws
