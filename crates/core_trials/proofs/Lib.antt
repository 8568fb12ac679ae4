-- Lemmas on random schedules.
pub mod Calls
pub mod Given
pub mod GivingUp
