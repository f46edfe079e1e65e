pub mod Judging
pub mod Wholes
pub mod Chaining
pub mod Building
pub mod Filling
pub mod Decides
mod Places
