mod ShownWorked
mod Steps
mod Turns
mod Worked
pub mod Failing
pub mod ShownCounts
pub mod ShownOnce
