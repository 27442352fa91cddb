pub mod HistoryLaws
pub mod Promises
pub mod SettingLaws
