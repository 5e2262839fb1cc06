pub mod Minimal
pub mod Demands
pub mod Promised
