pub mod Values
pub mod Tracers
pub mod Within
