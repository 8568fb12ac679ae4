-- The definitions of sources, sinks, the lines of a source, and the fields and numbers on a line.
pub mod Counts
pub mod Ends
pub mod Memory
pub mod Adapters
pub mod Writes
pub mod Lines
pub mod WholeLines
pub mod Numbers
pub mod Fields
pub mod Laws
