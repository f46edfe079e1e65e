pub mod Counted
pub mod Report
