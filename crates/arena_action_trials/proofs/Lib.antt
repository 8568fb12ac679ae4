-- Lemmas on records that are known.
pub mod RisingIds
