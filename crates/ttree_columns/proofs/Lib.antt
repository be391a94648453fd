pub mod Fitted
mod Worked
