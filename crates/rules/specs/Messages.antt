-- The fourteen messages of 000, 4.16 and 4.17.
pub mod Layout
pub mod Parameters
pub mod Forms
pub mod Fields
pub mod Codec
pub mod Unused
