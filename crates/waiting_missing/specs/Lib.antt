pub mod Internal
pub mod Missing
pub mod MissingCalls
