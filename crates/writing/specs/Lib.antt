pub mod Spans
pub mod Framed
pub mod Fits
pub mod Writing
