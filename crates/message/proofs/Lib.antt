-- Laws that the proofs of the functions apply, and one that callers cite.
pub mod Lists
mod Heads
mod Decoding
mod SetAndText
mod Types
