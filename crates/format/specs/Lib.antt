pub mod Words
pub mod Shows
pub mod Audit
pub mod Performing
