-- How a `Few` is read as a list.
pub mod Listed
