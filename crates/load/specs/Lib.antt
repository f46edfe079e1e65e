pub mod Judging
pub mod Building
