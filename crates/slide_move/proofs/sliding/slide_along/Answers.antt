use Rattle.std.proofs.Common.{◌≡◌, ◌+◌, ◌-◌, ◌++◌, ◌∙◌, arith, sym, subst}
use Rattle.arena_geo.specs.Bounds.{IsInRange}
use Rattle.arena_geo.specs.Boxes.{box_moved_by}
use Rattle.slide_move.specs.declared.slid.Slid.{Slid}
use Rattle.slide_move.proofs.Ways.{IsInRange-part, moved-zero_vector}
use Rattle.slide_move.proofs.Underway.{IsUnderway, begins, goes_on, ends_early, ends, leg_fits, leg_in_range, near_left, left_in_range, then_there}
use Rattle.slide_move.proofs.sliding.slide_along.Goals as goal

pub loop-init : goal.loop-init
loop-init c =
    let P : Slid → Type 0 = λ slid. IsUnderway c.args.body.now c.args.vel c.args.way (c.args.fixed.now ++ c.args.moving.now) 4 slid c.args.way in
    let Q : Slid → Type 0 = λ slid. c.copied-here.result ≡ box_moved_by c.args.body.now slid.shift in
    record {
      underway = subst P (sym c.still-slid.ensures) (begins c.args.body.now c.args.vel c.args.way (c.args.fixed.now ++ c.args.moving.now));
      at = subst Q (sym c.still-slid.ensures) (c.copied-here.ensures.value ∙ sym (moved-zero_vector c.args.body.now));
    }

pub of-leg-requires-clause-near : goal.of-leg-requires-clause-near
of-leg-requires-clause-near c = near_left _ _ _ _ _ _ _ c.loop.invariant.underway c.requires.near

pub of-leg-requires-clause-in_range : goal.of-leg-requires-clause-in_range
of-leg-requires-clause-in_range c =
    left_in_range _ _ _ _ _ _ _ c.loop.invariant.underway _ c.loop.invariant.at c.copied-here.ensures.is_box.in_range c.requires.in_range

pub then-slid-requires : goal.then-slid-requires
then-slid-requires c =
    leg_fits _ _ _ _ _ _ _ c.loop.invariant.underway _ _ c.loop.invariant.at c.of-leg.ensures c.requires.near

pub returns-in_default-clause-value : goal.returns-in_default-clause-value
returns-in_default-clause-value c =
    ends_early _ _ _ _ _ _ _ c.loop.invariant.underway _ _ c.loop.invariant.at c.of-leg.ensures (3 - c.loop.counter) _ (omega arith) c.in_default.is c.then-slid.ensures

pub returns-in_default-clause-in_range : goal.returns-in_default-clause-in_range
returns-in_default-clause-in_range c =
    leg_in_range _ _ _ _ _ _ _ c.loop.invariant.underway _ _ c.loop.invariant.at c.of-leg.ensures _ c.then-slid.ensures c.copied-here.ensures.is_box.in_range c.requires.in_range

pub shifted-here-requires : goal.shifted-here-requires
shifted-here-requires c =
    subst IsInRange (sym (then_there c.args.body.now c.loop.here c.loop.slid c.of-leg.result.slid c.then-slid.result c.loop.invariant.at c.then-slid.ensures))
    (leg_in_range _ _ _ _ _ _ _ c.loop.invariant.underway _ _ c.loop.invariant.at c.of-leg.ensures _ c.then-slid.ensures c.copied-here.ensures.is_box.in_range c.requires.in_range)

pub loop-preserved : goal.loop-preserved
loop-preserved c = record {
  underway =
      goes_on _ _ _ _ _ _ _ c.loop.invariant.underway _ _ c.loop.invariant.at c.of-leg.ensures (4 - (c.loop.counter + 1)) _ _ (omega arith) c.in-Some.is c.then-slid.ensures;
  at =
      c.shifted-here.ensures ∙ then_there c.args.body.now c.loop.here c.loop.slid c.of-leg.result.slid c.then-slid.result c.loop.invariant.at c.then-slid.ensures;
}

pub returns-clause-value : goal.returns-clause-value
returns-clause-value c = ends _ _ _ _ _ _ _ (omega arith) c.loop.invariant.underway

pub returns-clause-in_range : goal.returns-clause-in_range
returns-clause-in_range c =
    IsInRange-part c.args.body.now c.args.way c.loop.slid.shift c.loop.invariant.underway.gone c.copied-here.ensures.is_box.in_range c.requires.in_range
