pub mod Binding
pub mod Exported
pub mod Messages
pub mod Once
pub mod Promises
pub mod Sessions
pub mod Tables
pub mod Wire
