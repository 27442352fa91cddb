pub mod MemberLaws
pub mod Promises
pub mod SLaws
