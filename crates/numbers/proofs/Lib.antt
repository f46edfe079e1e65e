pub mod Groups
pub mod Ahead
pub mod Took
pub mod Shortest
pub mod Putting
pub mod Faults
pub mod Local
pub mod Decides
