pub mod First
pub mod Walked
