-- Laws of areas, screens and echoes. Crates above cite the public ones.
mod Cases
pub mod Echoes
mod Written
pub mod Marks
