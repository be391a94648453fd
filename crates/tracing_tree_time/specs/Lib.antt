pub mod Clock
pub mod Numbers
pub mod Pieces
pub mod Timers
