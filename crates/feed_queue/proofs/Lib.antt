pub mod Counting
pub mod Doing
pub mod Keeping
pub mod Ordering
