pub mod Difference
pub mod Flushed
pub mod Layer
pub mod Layered
pub mod Laws
pub mod Replies
