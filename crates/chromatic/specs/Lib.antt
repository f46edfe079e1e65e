pub mod Exports
pub mod Spans
