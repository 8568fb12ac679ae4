-- Lemmas on the recordings whose ends are known.
pub mod OneJoin
pub mod Making
