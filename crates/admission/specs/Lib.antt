pub mod Admits
pub mod Deciding
