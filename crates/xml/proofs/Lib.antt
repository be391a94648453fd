mod Marked
mod Pieces
mod Turns
mod Worked
