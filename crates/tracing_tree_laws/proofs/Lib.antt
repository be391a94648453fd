mod AcceptedCalls
mod FrameColumns
mod Nearest
pub mod TestRuns
mod TapRuns
