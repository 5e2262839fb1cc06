-- Laws that belong to no one function.
pub mod Beginning
pub mod Crowding
pub mod Filling
pub mod Making
pub mod Marking
pub mod Meeting
pub mod Reaching
pub mod Rooms
