-- What the contracts of internal functions cite; no rule of 01 stands here.
pub mod OfferReady
