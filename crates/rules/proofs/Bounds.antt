-- The bounds of page 01: every call keeps the line in its sizes and what it writes in its areas.
pub mod Bytes
pub mod Limits
pub mod Screen
pub mod Sent
pub mod Turns
pub mod Messages
pub mod ReadData
pub mod Editing
pub mod Arrival
pub mod Steps
pub mod Received
pub mod StartRead
pub mod Characteristics
pub mod Reports
pub mod Write
pub mod Host
pub mod Settings
mod Keystroke
pub mod Calls
