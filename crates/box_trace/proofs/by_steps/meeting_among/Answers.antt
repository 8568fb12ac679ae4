use Rattle.std.proofs.Common.{refl, sym, ◌∙◌}
use Rattle.arena_geo.specs.Boxes.{overlaps}
use Rattle.box_trace.proofs.Firsts.{list_any_where_none, find-Some}
use Rattle.box_trace.proofs.by_steps.meeting_among.Goals as goal

pub returns-in_err-block : goal.returns-in_err-block
returns-in_err-block c =
    rw c.from_residual.ensures (list_any_where_none (overlaps c.args.body.now) c.args.solids.now (sym c.first_overlapped.ensures ∙ c.in_err-block.was))

pub returns : goal.returns
returns c =
    let found = sym c.first_overlapped.ensures ∙ c.in_ok-block.was in
    record {
      step = refl;
      block = found;
      solid = find-Some (overlaps c.args.body.now) c.args.solids.now c.in_ok-block.block c.index-solids-block.result found c.index-solids-block.is;
    }
