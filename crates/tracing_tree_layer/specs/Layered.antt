-- A registry with a layer: the state that calls change, their answers, and runs of them.
pub mod State
pub mod Step
pub mod Run
pub mod Refused
pub mod Answered
pub mod Seen
pub mod Headline
