use Rattle.arena_actions.specs.declared.solid_index.TheConstants.{SOLID_WORDS}
use Rattle.arena_actions.proofs.Overlapping.{all_marked}
use Rattle.arena_actions.proofs.solid_index.SolidIndex.mark_near.Goals as goal

pub returns-in-None : goal.returns-in-None
returns-in-None c solids misses few = all_marked c.args.place.now solids SOLID_WORDS few
