-- Laws that belong to no one function; crates above cite those marked `pub mod`.
pub mod Cells
pub mod Looking
pub mod Putting
