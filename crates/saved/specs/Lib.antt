pub mod Saved
pub mod Loaded
pub mod Calls
pub mod There
pub mod Misread
pub mod Older
