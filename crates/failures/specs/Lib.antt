pub mod Failures
pub mod Cells
