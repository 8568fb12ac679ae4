use Rattle.std.proofs.Common.{ap, sym, ◌∙◌}
use Rattle.world_tree.specs.Live.{record_at}
use Rattle.frame_phases.proofs.Showing.{put_slot}
use Rattle.frame_phases.proofs.shows.list_slot.Goals as goal

pub returns-clause-slots : goal.returns-clause-slots
returns-clause-slots c =
    put_slot c.push-fits.result c.args.world.now.records c.args.slot c.in-Some._player c.args.slots.now c.push-fits.new.self c.get.ensures.linked.entries
    (ap (record_at c.args.world.now.records) (sym c.from.ensures) ∙ sym c.get.ensures.record ∙ c.in-Some.is) c.push-fits.ensures.room c.requires c.push-fits.ensures.pushed
