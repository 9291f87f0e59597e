pub mod Presidents
pub mod Courses
