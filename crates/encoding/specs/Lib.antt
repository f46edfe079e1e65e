pub mod Numbers
pub mod Operations
pub mod Batch
pub mod Singly
pub mod Causes
