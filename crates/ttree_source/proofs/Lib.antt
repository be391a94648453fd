pub mod Accepted
pub mod Made
pub mod Drawn
pub mod Noted
pub mod Interpreted
pub mod Counted
pub mod Ended
pub mod Escapes
pub mod Instants
pub mod LineCalls
pub mod Marked
pub mod Leveled
mod Worked
