use Rattle.ruled_words.proofs.Owns.{looked_own}
use Rattle.region_locks.proofs.table.NodeTable.look.Goals as goal

pub returns-clause-own : goal.returns-clause-own
returns-clause-own g c = looked_own _ _ _ _ _ c.look_word.result c.look_word.ensures.pass c.requires.own c.look_word.ensures.sound_sight
