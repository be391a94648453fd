-- The laws of what is printed, nested and closed.
pub mod Stored
pub mod Printing
pub mod WellKept
pub mod Accounts
pub mod Actions
pub mod Leaving
pub mod Reachable
pub mod AllAccounts
pub mod EachLine
pub mod NestedIn
pub mod Placing
pub mod Nests
pub mod ClosesInward
pub mod Worked
