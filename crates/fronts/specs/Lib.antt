pub mod Front
pub mod Flags
