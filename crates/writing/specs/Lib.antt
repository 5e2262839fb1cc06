pub mod Writing
pub mod Writes
pub mod Promised
