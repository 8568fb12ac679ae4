use Rattle.std.proofs.Common.{ℤ, sym, subst}
use Rattle.arena_geo.proofs.Strips.{read_x, read_y}
use Rattle.box_strips.specs.Strips.{StripsView, IsIndexOf}
use Rattle.box_strips.proofs.Touching.{HasBegun, HasEnded, in_all}
use Rattle.box_strips.proofs.box_strips.BoxStrips.mark_near.Goals as goal

pub returns-clause-marked : goal.returns-clause-marked
returns-clause-marked g c boxes is =
    let one = c.args.one.now in
    let index : StripsView = record { x = c.self.inside.x; y = c.self.inside.y } in
    let lo = c.lo-lo.ensures in
    let hi = c.hi-hi.ensures in
    in_all index one c.begun_by.result.now c.ended_from.result.now c.begun_by-2.result.now c.ended_from-2.result.now c.add_common.new.bits
    (subst (λ (at : ℤ). HasBegun index.x at c.begun_by.result.now) (read_x c.hi-hi.result one.hi hi.value hi.is_box.in_range.hi) c.begun_by.ensures.found)
    (subst (λ (at : ℤ). HasEnded index.x at c.ended_from.result.now) (read_x c.lo-lo.result one.lo lo.value lo.is_box.in_range.lo) c.ended_from.ensures.found)
    (subst (λ (at : ℤ). HasBegun index.y at c.begun_by-2.result.now) (read_y c.hi-hi.result one.hi hi.value hi.is_box.in_range.hi) c.begun_by-2.ensures.found)
    (subst (λ (at : ℤ). HasEnded index.y at c.ended_from-2.result.now) (read_y c.lo-lo.result one.lo lo.value lo.is_box.in_range.lo) c.ended_from-2.ensures.found)
    c.add_common.ensures.added boxes (subst (λ (s : StripsView). IsIndexOf s boxes) (sym c.self.view_is) is)
