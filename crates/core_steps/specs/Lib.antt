-- The definitions of the pure core: its words, a seat's view, its steps, and what they keep.
pub mod Cells
pub mod Encoding
pub mod Nodes
pub mod Points
pub mod Reads
pub mod Held
pub mod Steps
pub mod Stands
pub mod Laws
pub mod Machine
pub mod Calls
pub mod MachineLaws
pub mod Rows
