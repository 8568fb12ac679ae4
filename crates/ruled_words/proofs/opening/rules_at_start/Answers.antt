use Rattle.std.proofs.Common.{refl}
use Rattle.ruled_words.specs.Starts.{fixed_by}
use Rattle.ruled_words.proofs.Openings.{world_starts_if, on_ok}
use Rattle.ruled_words.proofs.opening.rules_at_start.Goals as goal

pub new-requires : goal.new-requires
new-requires g c = (
  c.type_bounds.send-A,
  (
    c.type_bounds.sync-A,
    rw (c.as_slice.ensures.value, c.in_ok-records.ensures.records, c.tree.ensures.tree)
        (world_starts_if (fixed_by g.A.Action.meaning c.args.action.now c.args.world.now) c.args.world.now c.in_ok-records.records.items refl
        c.in_ok-records.ensures.linked c.in_ok-records.ensures.records c.in_ok-records.ensures.small c.requires.taken),
  ),
)

pub returns-clause-start : goal.returns-clause-start
returns-clause-start g c =
    on_ok c.new.result
    (world_starts_if (fixed_by g.A.Action.meaning c.args.action.now c.args.world.now) c.args.world.now c.in_ok-records.records.items refl
    c.in_ok-records.ensures.linked c.in_ok-records.ensures.records c.in_ok-records.ensures.small c.requires.taken)
