pub mod Rules
pub mod Forest
pub mod Words
pub mod Bounds
pub mod Accepted
pub mod Held
pub mod Promised
