-- Laws that belong to no one function.
pub mod Slots
pub mod Sparing
