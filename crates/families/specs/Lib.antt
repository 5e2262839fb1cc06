pub mod Families
pub mod Next
