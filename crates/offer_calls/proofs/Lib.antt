pub mod OfferTies
pub mod OfferWordLaws
pub mod Promises
