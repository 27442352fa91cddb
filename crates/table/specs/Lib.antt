pub mod Internal
pub mod Table
pub mod TableBytes
pub mod TableCalls
pub mod TableWritten
pub mod Widths
