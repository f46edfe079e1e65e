pub mod Awake
pub mod Scanning
pub mod Waking
pub mod Settling
pub mod Looks
