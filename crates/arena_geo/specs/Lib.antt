-- The definitions of vectors, boxes, regions and roots.
pub mod Vectors
pub mod Bounds
pub mod Boxes
pub mod Regions
pub mod Roots
pub mod Laws
