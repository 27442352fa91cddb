pub mod DecideLaws
pub mod FitLaws
pub mod PutLaws
