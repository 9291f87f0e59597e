pub mod Apart
pub mod Joins
pub mod Lists
pub mod Parts
pub mod Plain
pub mod ReadBack
pub mod Reading
pub mod Replies
