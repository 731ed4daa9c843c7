-- Laws of what is put into an area; crates above cite them.
pub mod Putting
pub mod InFront
