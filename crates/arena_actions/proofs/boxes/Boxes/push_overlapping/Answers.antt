use Rattle.std.proofs.Common.{List, ◌*◌, ◌≤◌, ◌++◌, sym, ap, ◌∙◌, arith, length, filter}
use Rattle.std.proofs.lemmas.List.{append-nil, take_all}
use Rattle.arena_geo.specs.Bounds.{Bounds}
use Rattle.arena_geo.specs.Boxes.{overlaps}
use Rattle.arena_actions.specs.declared.solid_index.TheConstants.{SOLID_WORDS}
use Rattle.arena_actions.proofs.Overlapping.{none_to, pushed}
use Rattle.arena_actions.proofs.boxes.Boxes.push_overlapping.Goals as goal

pub loop-found-init : goal.loop-found-init
loop-found-init g c = record { boxes = sym (append-nil c.args.self.now); few = omega arith; within = omega arith }

pub loop-found-preserved : goal.loop-found-preserved
loop-found-preserved g c =
    let place = c.args.place.now in
    let solids = c.args.solids.now in
    let next = c.in-Some.ensures in
    let few : length solids ≤ 64 * SOLID_WORDS = omega (arith, c.requires.few) in
    let marked = c.mark_near.ensures solids c.requires.index few in
    let none = none_to place solids c.mark_near.new.bits c.loop-found.at c.in-Some.found next.least marked next.none in
    record {
      boxes =
          pushed (overlaps place) solids c.loop-found.at c.in-Some.found c.index-solids-found.result c.args.self.now c.loop-found.self c.push_if_overlapping.new.self next.within c.index-solids-found.is
          c.loop-found.invariant.boxes c.if-not-push_if_overlapping.ensures.boxes none;
      few = omega (arith, c.loop-found.invariant.few, c.push_if_overlapping.ensures.few, next.least);
      within = omega (arith, next.within);
    }

pub returns-clause-boxes : goal.returns-clause-boxes
returns-clause-boxes g c =
    let place = c.args.place.now in
    let solids = c.args.solids.now in
    let few : length solids ≤ 64 * SOLID_WORDS = omega (arith, c.requires.few) in
    let marked = c.mark_near.ensures solids c.requires.index few in
    let none = none_to place solids c.mark_near.new.bits c.loop-found.at (length solids) c.loop-found.invariant.within marked c.in_default.ensures in
    c.loop-found.invariant.boxes ∙ ap (λ (l : List Bounds). c.args.self.now ++ l) (sym none ∙ ap (filter (overlaps place)) (take_all (length solids) solids (omega arith)))
