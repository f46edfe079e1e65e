pub mod Ledger
pub mod Sends
pub mod Sequences
