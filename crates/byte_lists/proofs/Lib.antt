-- Lemmas on bytes.
pub mod Bytes
