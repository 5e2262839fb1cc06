-- Laws that belong to no one function.
pub mod FirstBad
pub mod Chains
