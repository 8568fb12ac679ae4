use Rattle.std.proofs.Common.{◌≡◌, ℕ, ◌+◌, ap, ◌∙◌, arith}
use Rattle.arena_geo.specs.declared.vec3.Vec3.{Vec3}
use Rattle.arena_geo.specs.Vectors.{IsNear}
use Rattle.arena_geo.specs.Bounds.{Bounds}
use Rattle.arena_geo.specs.Boxes.{box_grown_by}
use Rattle.entity_recs.specs.declared.rec.Rec.{Rec}
use Rattle.entity_recs.specs.Bodies.{abs_of}
use Rattle.player_move.specs.Laws.{reach_on}
use Rattle.arena_outcomes.specs.Regions.{reach_of}
use Rattle.arena_outcomes.proofs.Lawful.Growing.{amount, abs_within, grows_in_range, read-reach}
use Rattle.arena_actions.proofs.region.reach_of.Goals as goal

-- the absolute box, larger by what the move goes and what there is to spare, is the reach
reached : (me : Rec) (ms x y z : ℕ) → x ≡ reach_on me.vel.x ms → y ≡ reach_on me.vel.y ms → z ≡ reach_on me.vel.z ms
    → box_grown_by (abs_of me) (amount (x + 256) (y + 256) (z + 4864)) ≡ reach_of me ms
reached me ms x y z x_is y_is z_is =
    ap (λ (n : ℕ). box_grown_by (abs_of me) (amount (n + 256) (y + 256) (z + 4864))) x_is
    ∙ ap (λ (n : ℕ). box_grown_by (abs_of me) (amount (reach_on me.vel.x ms + 256) (n + 256) (z + 4864))) y_is
    ∙ ap (λ (n : ℕ). box_grown_by (abs_of me) (amount (reach_on me.vel.x ms + 256) (reach_on me.vel.y ms + 256) (n + 4864))) z_is

pub grown-requires-clause-in_range : goal.grown-requires-clause-in_range
grown-requires-clause-in_range c =
    grows_in_range _ (abs_of c.args.me.now) _ (c.reach_on.result + 256) (c.reach_on-2.result + 256) (c.reach_on-3.result + 4864) 1066752 c.abs_box.ensures c.amount-by.ensures.value
    (omega (arith, c.reach_on.ensures.near)) (omega (arith, c.reach_on-2.ensures.near)) (omega (arith, c.reach_on-3.ensures.near)) (omega arith) (abs_within c.args.me.now c.requires.record)

pub returns : goal.returns
returns c =
    c.grown.ensures
    ∙ ap (λ (b : Bounds). box_grown_by b c.amount-by.result) c.abs_box.ensures
    ∙ ap (λ (by : Vec3). box_grown_by (abs_of c.args.me.now) by) c.amount-by.ensures.value
    ∙ reached c.args.me.now c.args.ms _ _ _
    (read-reach c.reach_on.result c.args.ms c.args.me.now.vel.x near.x c.reach_on.ensures.value)
    (read-reach c.reach_on-2.result c.args.ms c.args.me.now.vel.y near.y c.reach_on-2.ensures.value)
    (read-reach c.reach_on-3.result c.args.ms c.args.me.now.vel.z near.z c.reach_on-3.ensures.value)
  where
    near : IsNear 512000 c.args.me.now.vel
    near = c.requires.record.vel
