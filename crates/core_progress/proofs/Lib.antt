-- Lemmas on the progress of moves.
pub mod StepsLeft
pub mod SoundCounts
pub mod Serving
pub mod Effects
pub mod Lowering
pub mod Sums
pub mod Calls
pub mod Rounds
pub mod Schedules
pub mod Ends
pub mod Turns
