-- Laws that belong to no one function; crates above cite those marked `pub mod`.
pub mod Bearing
pub mod Reaching
pub mod Narrowing
pub mod RowMaking
