pub mod BloomWords
