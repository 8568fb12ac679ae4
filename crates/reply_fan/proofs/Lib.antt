-- Lemmas on lists that are equal at each place.
pub mod Places
