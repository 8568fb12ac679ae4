use Rattle.arena_map.proofs.Keeping.{begun-is_map, with_line-is_map}
use Rattle.arena_map.proofs.Breaking.{begins-unbroken, leaves-unbroken}
use Rattle.arena_map.proofs.laws.lines_keep_the_rules.Goals as goal

pub returns : goal.returns
returns c = record {
  begun = begun-is_map;
  added = with_line-is_map;
  begun_only = begins-unbroken;
  added_only = leaves-unbroken;
}
