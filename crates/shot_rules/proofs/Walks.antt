-- What a shot that is fired does to the walk before it.
use Rattle.std.proofs.Common.{◌≡◌, Bool, true, false, cond, ◌&&◌, List, Option, Some, None, refl, sym, ap, ◌∙◌}
use Rattle.std.proofs.lemmas.Option.{none-some, same_Some}
use Rattle.arena_geo.specs.declared.vec3.Vec3.{Vec3}
use Rattle.arena_geo.specs.Bounds.{Bounds}
use Rattle.entity_recs.specs.declared.rec.Rec.{Rec}
use Rattle.entity_recs.specs.Commands.{Command}
use Rattle.trigger_rules.specs.Touching.{Walk, walk_of}
use Rattle.shot_rules.specs.Targets.{shot_box, has_aim, way_along, way_if_any, target_of}
use Rattle.shot_rules.specs.Shots.{may_fire, is_fired, with_shot_spent, after_meeting, shot, after_shot}

-- a way that is there is that of a wish
record IsAimed (c : Command) (way : Vec3) : Type 0 where
  aim : has_aim c.wish_x c.wish_y ≡ true
  is : way ≡ way_along c.wish_x c.wish_y

aimed : (c : Command) (way : Vec3) → Some way ≡ way_if_any c.wish_x c.wish_y → IsAimed c way
aimed c way is = by (has_aim c.wish_x c.wish_y) refl is
  where
    by : (t : Bool) → has_aim c.wish_x c.wish_y ≡ t → Some way ≡ cond t (Some (way_along c.wish_x c.wish_y)) None → IsAimed c way
    by true e h = record { aim = e; is = same_Some way (way_along c.wish_x c.wish_y) h }
    by false e h = absurd (none-some way (sym h))

-- a player that may fire, and has a way, does
pub is_fired_along : (c : Command) (w : Walk) (way : Vec3) → may_fire c w.me w.got ≡ true → Some way ≡ way_if_any c.wish_x c.wish_y → is_fired c w ≡ true
is_fired_along c w way may way_is = ap (λ (t : Bool). t && has_aim c.wish_x c.wish_y) may ∙ (aimed c way way_is).aim

-- after a shot that has met this
pub fired_at : (fixed : List Bounds) (near : List Rec) (c : Command) (w : Walk) (body : Bounds) (way : Vec3) (met : Option Rec)
    → may_fire c w.me w.got ≡ true → Some way ≡ way_if_any c.wish_x c.wish_y → body ≡ shot_box w.me.origin → met ≡ target_of body way fixed near
    → after_meeting c.frame (walk_of (with_shot_spent w.me) w.states w.got w.ended) met ≡ after_shot fixed near c w
fired_at fixed near c w body way met may way_is body_is met_is =
    let spent = walk_of (with_shot_spent w.me) w.states w.got w.ended in
    let a = aimed c way way_is in
    let fired = is_fired_along c w way may way_is in
    ap (after_meeting c.frame spent) met_is
    ∙ ap (λ (b : Bounds). after_meeting c.frame spent (target_of b way fixed near)) body_is
    ∙ ap (λ (v : Vec3). after_meeting c.frame spent (target_of (shot_box w.me.origin) v fixed near)) a.is
    ∙ sym (ap (λ (t : Bool). cond t (shot fixed near c w) w) fired)
