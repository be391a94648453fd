pub mod LongValues
pub mod LinedSpans
pub mod ShownMoments
mod Worked
mod WorkedFailures
pub mod ShownFailures
