pub mod Binding
pub mod Binds
pub mod Exported
pub mod Messages
pub mod Sessions
pub mod Tables
pub mod Wire
