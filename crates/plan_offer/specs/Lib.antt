pub mod Internal
pub mod OfferCall
