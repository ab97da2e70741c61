mod Least
mod Events
mod Turns
