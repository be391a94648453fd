pub mod Numbers
pub mod Digits
pub mod Places
mod Leaving
mod LastInLane
pub mod Interpreting
pub mod Noting
mod Reading
mod Taking
mod Worked
mod WorkedLeaves
mod WorkedEnds
mod KeyLists
