pub mod SettingWords
