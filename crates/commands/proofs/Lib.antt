pub mod Commands
pub mod Reading
pub mod Scanning
pub mod Running
pub mod Decides
pub mod Faults
pub mod Written
pub mod Prefix
