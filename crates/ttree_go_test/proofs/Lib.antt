pub mod NamedLists
pub mod GoLines
pub mod FailedLines
mod Worked
pub mod Failing
pub mod Passing
pub mod OwnNames
pub mod Frames
pub mod Laws
