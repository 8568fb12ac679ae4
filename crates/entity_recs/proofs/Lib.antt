-- Lemmas on the boxes of records.
pub mod Standing
pub mod KnownBoxes
pub mod Ids
pub mod Elements
pub mod Seeing
pub mod Reach
