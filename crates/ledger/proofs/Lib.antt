pub mod Arguments
pub mod Judging
pub mod Asking
pub mod Sending
pub mod Cleared
pub mod Clearing
pub mod Limit
pub mod Decides
