-- The passes of tests.
pub mod Trials
