use Rattle.std.proofs.Common.{◌≡◌, true, false, Bool, ℕ, List, [], length, fold, get_or, sym, ap, ◌∙◌}
use Rattle.arena_geo.specs.Bounds.{Bounds}
use Rattle.entity_recs.specs.declared.effect.NewState.{NewState}
use Rattle.entity_recs.specs.Bodies.{abs_of, is_touched}
use Rattle.entity_recs.specs.Worlds.{nobody}
use Rattle.trigger_rules.specs.Touching.{solids_among, Walk, walk_of, after_trigger, touched_by, touched}
use Rattle.trigger_rules.proofs.Walks.{ends-here}
use Rattle.trigger_rules.proofs.touch.touch_all.Goals as goal

pub loop-trigger-init : goal.loop-trigger-init
unfolding touched
loop-trigger-init c = record {
  player = c.requires.player;
  bounds = c.requires.record;
  lists = ap (λ (l : List NewState). length l) c.requires.no_states ∙ sym (ap (λ (l : List ℕ). length l) c.requires.no_ids);
  inside = λ inside. inside;
  rest = ap (λ (l : List NewState). from l c.args.got.now) c.requires.no_states ∙ ap (λ (l : List ℕ). from [] l) c.requires.no_ids;
}
  where
    from : List NewState → List ℕ → Walk
    from states got =
        fold (after_trigger c.args.map.now (solids_among c.args.map.now c.args.near.now) c.args.frame) (walk_of c.args.me.now states got false) (touched_by c.args.me.now c.args.near.now)

-- the walk that ends here is the whole walk
whole : (c : goal.Then-touch) → walk_of c.touch.new.me c.touch.new.out c.touch.new.got true ≡ touched c.args.map.now c.args.frame c.args.me.now c.args.near.now
whole c =
    let near = c.args.near.now in
    let test = is_touched (abs_of c.args.me.now) in
    let before = walk_of c.loop-trigger.me c.loop-trigger.out c.loop-trigger.got false in
    ends-here c.args.map.now (solids_among c.args.map.now near) c.args.frame test before _ c.touch.new.me c.touch.new.out c.touch.new.got c.loop-trigger.trigger-index nobody near
    c.loop-trigger-test.true
    (ap (λ (abs : Bounds). is_touched abs (get_or near c.loop-trigger.trigger-index nobody)) (sym c.abs_box-abs.ensures) ∙ sym c.is_near_and_touched.ensures ∙ c.if-is_near_and_touched.true)
    (ap (λ (b : Bool). walk_of c.touch.new.me c.touch.new.out c.touch.new.got b) (sym c.if-touch.true) ∙ c.touch.ensures.walk)
    c.loop-trigger.invariant.rest

pub returns-then-touch-clause-player : goal.returns-then-touch-clause-player
returns-then-touch-clause-player c = ap (λ (w : Walk). w.me) (whole c)

pub returns-then-touch-clause-states : goal.returns-then-touch-clause-states
returns-then-touch-clause-states c = ap (λ (w : Walk). w.states) (whole c)

pub returns-then-touch-clause-ids : goal.returns-then-touch-clause-ids
returns-then-touch-clause-ids c = ap (λ (w : Walk). w.got) (whole c)
