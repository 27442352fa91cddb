pub mod WireWords
