-- The outcome of a move with its shot, out of its parts.
use Rattle.std.proofs.Common.{◌≡◌, ℕ, ◌≤◌, Bool, true, false, cond, ◌&&◌, List, length, filter, Option, Some, None, refl, sym, ap, ◌∙◌, subst}
use Rattle.std.proofs.lemmas.List.{length-map}
use Rattle.std.proofs.lemmas.Option.{none-some, same_Some}
use Rattle.arena_geo.specs.Bounds.{Bounds}
use Rattle.arena_geo.specs.Boxes.{overlaps, contains}
use Rattle.box_trace.specs.Steps.{step_count, body_at}
use Rattle.player_move.proofs.Agreeing.{Agree-filter}
use Rattle.entity_recs.specs.declared.effect.Effect.{Effect}
use Rattle.entity_recs.specs.declared.effect.NewState.{NewState}
use Rattle.entity_recs.specs.declared.rec.Rec.{Rec}
use Rattle.entity_recs.specs.Commands.{Command}
use Rattle.arena_map.specs.Maps.{MapView, IsMap, solids_of}
use Rattle.trigger_rules.specs.Touching.{Walk, walk_of, touched}
use Rattle.trigger_rules.specs.Laws.{IsPlayerOn}
use Rattle.shot_rules.specs.Targets.{is_set, shot_box, shot_range, range_if_any, has_aim, way_along}
use Rattle.shot_rules.specs.Shots.{is_fired, after_meeting, walk_after_shot, after_shot}
use Rattle.shot_rules.proofs.Ways.{stays_in_range}
use Rattle.shot_rules.proofs.Hits.{firing, fired_is, unfired_is, stay_shooters, only_way_matters}
use Rattle.arena_outcomes.specs.Outcomes.{moved_among, effect_of, outcome_in, shooting_in}
use Rattle.arena_outcomes.proofs.Lawful.Moves.{stay_on_maps, take_what_is_there}
use Rattle.arena_actions.proofs.Keeping.{filter_again}

module _ (arena : MapView) (me : Rec) (near : List Rec) (c : Command) (e : Effect) (e_is : e ≡ outcome_in arena me near c) where
  -- the player that has moved is on the map
  pub effect_is_on : IsMap arena → IsPlayerOn arena me → IsPlayerOn arena e.me
  effect_is_on is_map on = subst (λ (x : Effect). IsPlayerOn arena x.me) (sym e_is) (stay_on_maps arena me near c is_map on)

  -- there are as many new states as ids
  pub lists_match : length e.states ≡ length e.reply.got
  lists_match =
      let there = take_what_is_there arena me near c in
      ap (λ (x : Effect). length x.states) e_is
      ∙ sym (length-map (outcome_in arena me near c).states (λ (s : NewState). s.id))
      ∙ sym (ap (λ (l : List ℕ). length l) there.got_are)
      ∙ sym (ap (λ (x : Effect). length x.reply.got) e_is)

  -- with the shot after it, it is the outcome with shots
  pub shooting_is : (fixed : List Bounds) (after : Rec) (states : List NewState) (got : List ℕ) → fixed ≡ solids_of arena
      → ((ended : Bool) → walk_of after states got ended ≡ after_shot fixed near c (walk_of e.me e.states e.reply.got ended))
      → record { me = after; states = states; reply = record { origin = e.reply.origin; got = got } } ≡ shooting_in arena me near c
  unfolding outcome_in
  shooting_is fixed after states got fixed_is walk =
      let w = touched arena c.frame (moved_among arena me near c) near in
      let same : walk_of after states got w.ended ≡ after_shot (solids_of arena) near c w =
      walk w.ended
      ∙ ap (λ (x : Effect). after_shot fixed near c (walk_of x.me x.states x.reply.got w.ended)) e_is
      ∙ ap (λ (solids : List Bounds). after_shot solids near c w) fixed_is in
      let origin : e.reply.origin ≡ (after_shot (solids_of arena) near c w).me.origin =
      ap (λ (x : Effect). x.reply.origin) e_is ∙ sym (ap (λ (r : Rec). r.origin) (stay_shooters (solids_of arena) near c w).same) in
      λ i. record { me = (same i).me; states = (same i).states; reply = record { origin = origin i; got = (same i).got } }

-- ---- the walls and blocks that a shot meets are in its range

-- where a range is known, it is that of the shot
record IsRangeOf (c : Command) (w : Walk) (place : Bounds) : Type 0 where
  aim : has_aim c.wish_x c.wish_y ≡ true
  is : place ≡ shot_range w.me.origin (way_along c.wish_x c.wish_y)

range_is : (c : Command) (w : Walk) (place : Bounds) → range_if_any w.me.origin c.buttons c.wish_x c.wish_y ≡ Some place → IsRangeOf c w place
range_is c w place is = by (is_set c.buttons 1) (has_aim c.wish_x c.wish_y) refl is
  where
    by : (s t : Bool) → has_aim c.wish_x c.wish_y ≡ t → cond (s && t) (Some (shot_range w.me.origin (way_along c.wish_x c.wish_y))) None ≡ Some place → IsRangeOf c w place
    by true true aim h = record { aim = aim; is = sym (same_Some (shot_range w.me.origin (way_along c.wish_x c.wish_y)) place h) }
    by true false aim h = absurd (none-some place h)
    by false t aim h = absurd (none-some place h)

-- so the shot is the same among those alone that overlap it
pub in_range_is : (fixed kept : List Bounds) (near : List Rec) (c : Command) (w : Walk) (place : Bounds)
    → range_if_any w.me.origin c.buttons c.wish_x c.wish_y ≡ Some place → kept ≡ filter (overlaps place) fixed
    → after_shot kept near c w ≡ after_shot fixed near c w
in_range_is fixed kept near c w place known kept_are = by (is_fired c w) refl
  where
    by : (t : Bool) → is_fired c w ≡ t → after_shot kept near c w ≡ after_shot fixed near c w
    by false none = unfired_is kept near c w none ∙ sym (unfired_is fixed near c w none)
    by true fired =
        let r = range_is c w place known in
        let body = shot_box w.me.origin in
        let way = way_along c.wish_x c.wish_y in
        let agree = Agree-filter place kept fixed (ap (filter (overlaps place)) kept_are ∙ filter_again (overlaps place) fixed) in
        let inside : (k : ℕ) → k ≤ step_count way → contains place (body_at body way k) ≡ true =
        λ k within. subst (λ (b : Bounds). contains b (body_at body way k) ≡ true) (sym r.is) (stays_in_range w.me.origin way k within) in
        fired_is kept near c w fired
        ∙ ap (λ (o : Option Rec). after_meeting c.frame (walk_after_shot w) o)
        (only_way_matters body way kept fixed near near (record {
          fixed_are = λ k from within. agree.blocked (body_at body way k) (inside k within);
          near_are = λ k from within. refl;
        }))
        ∙ sym (fired_is fixed near c w fired)

-- where no range is known, no shot is asked for
pub none_fired : (c : Command) (w : Walk) → range_if_any w.me.origin c.buttons c.wish_x c.wish_y ≡ None → is_fired c w ≡ false
none_fired c w none = by (is_fired c w) refl
  where
    asked : is_fired c w ≡ true → range_if_any w.me.origin c.buttons c.wish_x c.wish_y ≡ Some (shot_range w.me.origin (way_along c.wish_x c.wish_y))
    asked fired =
        let f = firing c w fired in
        ap (λ (t : Bool). cond (t && has_aim c.wish_x c.wish_y) (Some (shot_range w.me.origin (way_along c.wish_x c.wish_y))) None) f.pressed
        ∙ ap (λ (t : Bool). cond t (Some (shot_range w.me.origin (way_along c.wish_x c.wish_y))) None) f.aim

    by : (t : Bool) → is_fired c w ≡ t → t ≡ false
    by false e = refl
    by true e = absurd (none-some (shot_range w.me.origin (way_along c.wish_x c.wish_y)) (sym none ∙ asked e))

-- a move without a shot is that of the arena
pub unshot_is : (arena : MapView) (me : Rec) (near : List Rec) (c : Command) (e : Effect) → e ≡ outcome_in arena me near c
    → range_if_any e.me.origin c.buttons c.wish_x c.wish_y ≡ None → e ≡ shooting_in arena me near c
unfolding outcome_in
unshot_is arena me near c e e_is none =
    let w = touched arena c.frame (moved_among arena me near c) near in
    let there : range_if_any w.me.origin c.buttons c.wish_x c.wish_y ≡ None = sym (ap (λ (x : Effect). range_if_any x.me.origin c.buttons c.wish_x c.wish_y) e_is) ∙ none in
    e_is ∙ ap effect_of (sym (unfired_is (solids_of arena) near c w (none_fired c w there)))

-- with the shot after it, a move is the outcome with shots
pub shot_is : (arena : MapView) (me : Rec) (near : List Rec) (c : Command) (e after : Effect) → e ≡ outcome_in arena me near c → after.reply.origin ≡ e.reply.origin
    → ((ended : Bool) → walk_of after.me after.states after.reply.got ended ≡ after_shot (solids_of arena) near c (walk_of e.me e.states e.reply.got ended))
    → after ≡ shooting_in arena me near c
shot_is arena me near c e after e_is origin walk =
    (λ i. record { me = after.me; states = after.states; reply = record { origin = origin i; got = after.reply.got } })
    ∙ shooting_is arena me near c e e_is (solids_of arena) after.me after.states after.reply.got refl walk
