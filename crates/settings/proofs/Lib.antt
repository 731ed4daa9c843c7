-- Laws that the proofs of the functions apply.
mod Formed
mod Walk
mod Pairs
mod Found
mod Moved
