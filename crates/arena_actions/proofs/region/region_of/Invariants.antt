use Rattle.std.proofs.Common.{◌≡◌, ◌∷◌, take}
use Rattle.std.specs.Prelude.{filter_map}
use Rattle.arena_outcomes.specs.Regions.{first_box}
use Rattle.arena_actions.specs.Leaps.{landing_by}
use Rattle.arena_actions.proofs.region.region_of.Given as goal

-- the reach with room around it, and the landings of the leaps so far
abbrev pub invariant-loop-leap : goal.invariant-loop-leap
invariant-loop-leap l = l.region ≡ first_box l.room l.me l.cmd.ms ∷ filter_map (landing_by l.me l.reach) (take l.leap-index l.leap-items)
