-- Erasure: the rules run over a richer type of typed characters, mapped, are the rules run over the plainer type.
-- A rule's lemma mirrors the rule's text and opens only it and the small tests and messages in it: a rule that changes costs its own lemma.
pub mod Maps
pub mod Lists
pub mod Turns
pub mod ReadData
pub mod Editing
pub mod Arrival
pub mod StartRead
pub mod Steps
pub mod Write
pub mod Host
pub mod Calls
