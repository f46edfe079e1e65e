pub mod Spanning
pub mod Visits
