-- The definitions of packets, and what holds of them.
pub mod Spelling
pub mod Commands
pub mod Faults
pub mod Reading
pub mod Laws
pub mod Orders
