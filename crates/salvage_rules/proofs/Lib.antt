pub mod ClassLaws
pub mod DecideLaws
pub mod KeptLaws
