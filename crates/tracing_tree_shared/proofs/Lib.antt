pub mod Lists
pub mod Receipts
pub mod Replays
pub mod Amounts
pub mod Worked
mod ThreadCalls
