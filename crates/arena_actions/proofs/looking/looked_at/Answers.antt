use Rattle.std.proofs.Common.{◌≡◌, ℕ, ◌+◌, ap, ◌∙◌, arith}
use Rattle.arena_geo.specs.declared.vec3.Vec3.{Vec3}
use Rattle.arena_geo.specs.Vectors.{IsNear}
use Rattle.arena_geo.specs.Bounds.{Bounds}
use Rattle.arena_geo.specs.Boxes.{box_grown_by}
use Rattle.entity_recs.specs.declared.rec.Rec.{Rec}
use Rattle.entity_recs.specs.Bodies.{body_of}
use Rattle.player_move.specs.Laws.{reach_on, looked_at}
use Rattle.arena_outcomes.proofs.Lawful.Growing.{amount, body_within, grows_in_range, read-reach}
use Rattle.arena_actions.proofs.looking.looked_at.Goals as goal

-- the body, larger by the reach and the stairs, is where the move looks
looked : (me : Rec) (ms x y z : ℕ) → x ≡ reach_on me.vel.x ms → y ≡ reach_on me.vel.y ms → z ≡ reach_on me.vel.z ms → box_grown_by (body_of me) (amount x y (z + 4609)) ≡ looked_at me ms
looked me ms x y z x_is y_is z_is =
    ap (λ (n : ℕ). box_grown_by (body_of me) (amount n y (z + 4609))) x_is
    ∙ ap (λ (n : ℕ). box_grown_by (body_of me) (amount (reach_on me.vel.x ms) n (z + 4609))) y_is
    ∙ ap (λ (n : ℕ). box_grown_by (body_of me) (amount (reach_on me.vel.x ms) (reach_on me.vel.y ms) (n + 4609))) z_is

pub grown-requires-clause-in_range : goal.grown-requires-clause-in_range
grown-requires-clause-in_range c =
    grows_in_range _ (body_of c.args.me.now) _ c.reach_on.result c.reach_on-2.result (c.reach_on-3.result + 4609) 1062912 c.body_box.ensures c.amount-by.ensures.value
    (omega (arith, c.reach_on.ensures.near)) (omega (arith, c.reach_on-2.ensures.near)) (omega (arith, c.reach_on-3.ensures.near)) (omega arith) (body_within c.args.me.now c.requires.record)

pub returns : goal.returns
returns c =
    c.grown.ensures
    ∙ ap (λ (b : Bounds). box_grown_by b c.amount-by.result) c.body_box.ensures
    ∙ ap (λ (by : Vec3). box_grown_by (body_of c.args.me.now) by) c.amount-by.ensures.value
    ∙ looked c.args.me.now c.args.ms _ _ _
    (read-reach c.reach_on.result c.args.ms c.args.me.now.vel.x near.x c.reach_on.ensures.value)
    (read-reach c.reach_on-2.result c.args.ms c.args.me.now.vel.y near.y c.reach_on-2.ensures.value)
    (read-reach c.reach_on-3.result c.args.ms c.args.me.now.vel.z near.z c.reach_on-3.ensures.value)
  where
    near : IsNear 512000 c.args.me.now.vel
    near = c.requires.record.vel
