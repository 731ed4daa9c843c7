-- Laws of the rules, and what is proved of them.
pub mod Choice
pub mod Fields
pub mod Parameters
mod FormTable
mod Tails
pub mod Outcomes
pub mod RoundTrip
pub mod Bench
pub mod Numbers
pub mod Bounds
pub mod Settings
mod Erasure
pub mod TwoRuns
pub mod Area
pub mod RefusalNumbers
