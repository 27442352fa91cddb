pub mod Internal
pub mod ToSend
