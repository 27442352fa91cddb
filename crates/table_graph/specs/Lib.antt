pub mod Graph
pub mod GraphCalls
pub mod Internal
