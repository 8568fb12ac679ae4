-- Lemmas on words of bits, on the shifts by a depth, on the parts of an area, on the nodes of a tree, on the ways down and up, and on the areas of leaves and the cuts above them.
pub mod Words
pub mod Shifts
pub mod Parts
pub mod Points
pub mod Nodes
pub mod WaysDown
pub mod WaysUp
pub mod Sides
pub mod LeafAreas
pub mod CutsAbove
