-- Laws of the groups that a message begins with, and of their flags.
mod Groups
mod Packing
