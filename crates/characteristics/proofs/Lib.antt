-- Laws that the proofs of the functions apply; Held has those that a line cites.
mod Masks
mod AllCarried
mod Obeying
mod ReportLaws
pub mod Held
