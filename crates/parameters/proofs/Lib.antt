-- Laws that the proofs of the functions apply, and that callers of `parameter_at` cite.
pub mod Walk
pub mod Shapes
pub mod Walks
