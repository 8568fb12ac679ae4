-- A player that isn't down and is first in the way of a shot is hit, and what that does in numbers.
use Rattle.std.proofs.Common.{◌≡◌, ℕ, ◌+◌, ◌≤◌, ◌<◌, nat_lt, nat_le, Bool, true, false, cond, ◌&&◌, List, refl, sym, ap, ◌∙◌, subst, arith}
use Rattle.std.proofs.lemmas.Bool.Decides.{nat_tests}
use Rattle.arena_geo.specs.Bounds.{Bounds}
use Rattle.entity_recs.specs.declared.kind.Kind.{Kind}
use Rattle.entity_recs.specs.declared.kind.Kind.TheVariants.{Player}
use Rattle.entity_recs.specs.declared.rec.Rec.{Rec}
use Rattle.entity_recs.specs.Commands.{Command}
use Rattle.entity_recs.specs.Kinds.{is_player}
use Rattle.trigger_rules.specs.Touching.{Walk}
use Rattle.shot_rules.specs.Targets.{shot_box, way_along}
use Rattle.shot_rules.specs.Shots.{is_fired, stands, with_shot_spent, with_point, state_after_hit, after_hit, after_meeting, walk_after_shot, after_shot}
use Rattle.shot_rules.specs.Laws.{IsFirstInTheWay, IsHitDone, WhoStandsFirstIsHit}
use Rattle.shot_rules.proofs.Hits.{fired_is, first_is_met}

stands_is : (r : Rec) → r.kind ≡ Player → r.state < 100 → stands r ≡ true
stands_is r player few = ap (λ (k : Kind). is_player k && nat_lt r.state 100) player ∙ below r.state few
  where
    below : (n : ℕ) → n < 100 → nat_lt n 100 ≡ true
    below n h = grind (arith, nat_tests)

fells_at : (s : ℕ) → 100 ≤ s + 25 → nat_le 100 (s + 25) ≡ true
fells_at s h = grind (arith, nat_tests)

fells_not : (s : ℕ) → s + 25 < 100 → nat_le 100 (s + 25) ≡ false
fells_not s h = grind (arith, nat_tests)

-- what a hit does in numbers
hit_done : (frame : ℕ) (w : Walk) (r : Rec) → IsHitDone frame w r (after_hit frame (walk_after_shot w) r)
hit_done frame w r = record {
  state = state_after_hit r.state frame;
  states = refl;
  got = refl;
  wounded = λ h. (ap state_where (fells_not r.state h), ap score_where (fells_not r.state h));
  fallen = λ h. (ap state_where (fells_at r.state h) ∙ from_this_frame, ap score_where (fells_at r.state h));
}
  where
    state_where : Bool → ℕ
    state_where t = cond t (100 + frame + 40) (r.state + 25)

    score_where : Bool → ℕ
    score_where t = (cond t (with_point (with_shot_spent w.me)) (with_shot_spent w.me)).score

    from_this_frame : 100 + frame + 40 ≡ 100 + (frame + 40)
    from_this_frame = omega arith

-- the walk after a shot that has met a player that isn't down
hit_is_shot : (fixed : List Bounds) (near : List Rec) (c : Command) (w : Walk) (r : Rec) → is_fired c w ≡ true → stands r ≡ true
    → IsFirstInTheWay fixed near (shot_box w.me.origin) (way_along c.wish_x c.wish_y) r
    → after_hit c.frame (walk_after_shot w) r ≡ after_shot fixed near c w
hit_is_shot fixed near c w r fired standing first =
    sym (
    fired_is fixed near c w fired
    ∙ ap (after_meeting c.frame (walk_after_shot w)) (first_is_met fixed near (shot_box w.me.origin) (way_along c.wish_x c.wish_y) r first)
    ∙ ap (λ (t : Bool). cond t (after_hit c.frame (walk_after_shot w) r) (walk_after_shot w)) standing
    )

pub first_is_hit : WhoStandsFirstIsHit
first_is_hit fixed near c w r fired first player few =
    subst (IsHitDone c.frame w r) (hit_is_shot fixed near c w r fired (stands_is r player few) first) (hit_done c.frame w r)
