-- Lemmas on the passes of tests.
pub mod Trials
