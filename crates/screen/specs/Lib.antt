pub mod View
pub mod Marks
