-- Laws that the proofs of the functions apply, and that callers cite.
pub mod Numbers
pub mod Pieces
