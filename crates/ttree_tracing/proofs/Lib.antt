pub mod LoneMessages
mod Worked
