-- Lemmas on the index over boxes.
pub mod PlaceBits
pub mod InRows
pub mod Spreading
pub mod Touching
