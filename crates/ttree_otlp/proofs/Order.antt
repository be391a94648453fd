-- The law that the order of an input's lines doesn't matter.
pub mod Turns
pub mod Classes
pub mod Keys
pub mod Groups
pub mod Bare
pub mod Blocks
pub mod Once
pub mod TraceKeys
pub mod Effects
pub mod Times
pub mod Sorted
pub mod Gathered
pub mod Lines
pub mod Drawn
pub mod Law
pub mod Worked
