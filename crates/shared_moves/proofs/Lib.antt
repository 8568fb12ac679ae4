-- Lemmas on moves and their passes.
pub mod EndedPasses
pub mod EndedLogs
pub mod Runs
pub mod PassRuns
pub mod NewPasses
