use Rattle.std.proofs.Common.{◌≡◌, true, false, length, filter, drop, fold}
use Rattle.arena_geo.specs.Boxes.{contains}
use Rattle.entity_recs.specs.declared.kind.Kind.TheVariants.{Player}
use Rattle.entity_recs.specs.Records.{IsRecord}
use Rattle.entity_recs.specs.Bodies.{body_of, abs_of, is_touched}
use Rattle.trigger_rules.specs.Touching.{solids_among, walk_of, after_trigger, touched}
use Rattle.trigger_rules.proofs.touch.touch_all.Given as goal

-- the walk so far and the records that are left come to the whole walk
abbrev pub invariant-loop-trigger : goal.invariant-loop-trigger
invariant-loop-trigger l = record {
  player : l.me.kind ≡ Player;
  bounds : IsRecord l.me;
  lists : length l.out ≡ length l.got;
  inside : contains l.map.bounds (body_of l.fn.me) ≡ true → contains l.map.bounds (body_of l.me) ≡ true;
  rest : fold (after_trigger l.map (solids_among l.map l.near) l.frame) (walk_of l.me l.out l.got false) (filter (is_touched (abs_of l.fn.me)) (drop l.trigger-index l.near))
      ≡ touched l.map l.frame l.fn.me l.near;
}
