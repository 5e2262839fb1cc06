-- The law of agreement, and how tables come under it.
pub mod Carrying
pub mod Renumbering
pub mod Order
pub mod Agreeing
pub mod Tables
pub mod Recording
pub mod Beside
pub mod Opening
pub mod Promised
