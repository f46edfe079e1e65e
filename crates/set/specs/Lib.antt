pub mod Inside
pub mod Operations
pub mod Set
pub mod Balance
pub mod Levels
