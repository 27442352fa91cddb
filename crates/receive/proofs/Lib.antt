pub mod CallLaws
pub mod DraftLaws
pub mod KeptLaws
pub mod Outcomes
pub mod Promises
pub mod ReceiveOnce
