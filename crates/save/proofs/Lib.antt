pub mod Writing
pub mod Whole
pub mod Decides
