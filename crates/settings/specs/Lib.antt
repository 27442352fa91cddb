pub mod History
pub mod Settings
