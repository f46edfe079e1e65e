pub mod Answered
pub mod Operated
pub mod Ready
