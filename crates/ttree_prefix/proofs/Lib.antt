pub mod Places
mod Worked
