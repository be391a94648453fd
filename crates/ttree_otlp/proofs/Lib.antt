mod Inner
mod Kept
mod Numbers
mod Reach
mod Texts
mod Worked
pub mod Order
mod Following
