mod Finds
mod Maps
mod Puts
