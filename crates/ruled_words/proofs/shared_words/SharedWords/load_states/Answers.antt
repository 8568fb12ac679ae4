use Rattle.std.proofs.Common.{List, subst}
use Rattle.std.proofs.lemmas.Bool.{OnTrue_at}
use Rattle.arena_geo.specs.Bounds.{Bounds}
use Rattle.core_seats.specs.ThingStrips.{TouchesAll}
use Rattle.ruled_words.specs.Passes.{fixed_in}
use Rattle.ruled_words.proofs.shared_words.SharedWords.load_states.Goals as goal

pub load_all-requires-clause-all : goal.load_all-requires-clause-all
load_all-requires-clause-all g c κs within =
    subst (λ (region : List Bounds). TouchesAll (fixed_in g.A.Action.meaning c.args.self.now) region) c.requires.region_is (OnTrue_at c.if-has_all_things.true c.has_all_things.ensures)
