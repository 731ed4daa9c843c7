-- What the promises of this crate say, in the words of the rules.
pub mod Forms
