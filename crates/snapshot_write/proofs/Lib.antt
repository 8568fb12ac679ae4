-- Lemmas on snapshots.
pub mod Appending
pub mod Views
pub mod InView
pub mod Written
pub mod Blocks
pub mod Fields
pub mod Again
pub mod Rules
pub mod Sights
pub mod OwnPart
pub mod InSight
