-- Laws of what was played, and of what was moved.
mod Playing
mod Moved
