use Rattle.arena_map.proofs.FirstBroken.{begun-first, first-begun, added-first, first-added}
use Rattle.arena_map.proofs.laws.broken_rules_are_the_first.Goals as goal

pub returns : goal.returns
returns c = record {
  begun = λ lo hi rule. (begun-first lo hi rule, first-begun lo hi rule);
  added = λ map line rule is. (added-first map line rule is, first-added map line rule is);
}
