-- Lemmas on vectors, boxes and roots.
pub mod Vectors
pub mod Ranges
pub mod Containment
pub mod CommonPoints
pub mod Squares
pub mod Overlaps
pub mod Quotients
pub mod Strips
pub mod HalfDigits
