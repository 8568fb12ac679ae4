-- Bytes, as contracts see them: lists of numbers.
pub mod Bytes
