pub mod Texts
pub mod Batches
pub mod Rendering
pub mod Decides
pub mod Decimal
pub mod Printing
pub mod Worked
