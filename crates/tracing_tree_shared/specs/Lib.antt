pub mod History
pub mod Books
pub mod Drafts
pub mod Finish
pub mod Amounts
pub mod Streamed
pub mod Threads
