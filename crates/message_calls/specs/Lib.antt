pub mod MessageWords
