pub mod Digits
pub mod Areas
pub mod Played
pub mod Moved
