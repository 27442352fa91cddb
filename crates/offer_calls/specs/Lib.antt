pub mod OfferWords
