-- Lemmas on the rules of a player's velocity.
pub mod Shares
pub mod Gaining
pub mod Slowing
pub mod Pushing
pub mod Aiming
pub mod Capping
pub mod Crossing
pub mod Entering
pub mod Typed
pub mod Together
