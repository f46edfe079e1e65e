pub mod Scanned
pub mod Written
pub mod Faults
