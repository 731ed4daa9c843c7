-- Laws of what is put, and of what is written.
pub mod Lengths
pub mod Settings
pub mod Fitting
mod WholeLists
pub mod Writes
