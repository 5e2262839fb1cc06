pub mod Places
pub mod Above
pub mod Trying
pub mod Members
