-- Lemmas on slides.
pub mod Parts
pub mod Ways
pub mod Legs
pub mod Slides
pub mod SlideBodies
pub mod Underway
pub mod Reaches
pub mod Insides
pub mod Findings
pub mod Hits
pub mod GoingOn
pub mod TraceCounts
