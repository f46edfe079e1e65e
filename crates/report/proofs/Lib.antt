pub mod Counting
pub mod Reports
pub mod Exact
pub mod Summed
pub mod Decides
pub mod Told
