pub mod EntryLaws
pub mod MergeLaws
pub mod WordLaws
