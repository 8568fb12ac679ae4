-- Lemmas on what is written where the program isn't served.
pub mod Unserved
