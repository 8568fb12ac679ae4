-- That a move goes no less far over the ground than its plain slide, and when it takes the stairs.
use Rattle.std.proofs.Common.{◌≡◌, ◌≢◌, ℕ, ◌<◌, ◌%◌, Bool, not, true, false, inl, inr, if◌then◌else◌, List, ℤ, pos, ◌+ℤ◌, ◌-ℤ◌, refl, ap, ◌∙◌, arith}
use Rattle.std.specs.Prelude.{◌&&◌}
use Rattle.std.specs.Cmp.Derive.{both_true}
use Rattle.std.proofs.lemmas.Bool.{ltb-true, lt-ltb, eq-eqb, ne_eqb, and_parts, both_ways}
use Rattle.std.proofs.lemmas.Int.{ints}
use Rattle.arena_geo.specs.declared.vec3.Vec3.{Vec3}
use Rattle.arena_geo.specs.Vectors.{plus, minus}
use Rattle.arena_geo.specs.Bounds.{Bounds}
use Rattle.arena_geo.specs.Boxes.{box_moved_by}
use Rattle.slide_move.specs.declared.slid.Slid.{Slid}
use Rattle.slide_move.specs.Slides.{slide_of}
use Rattle.entity_recs.specs.declared.rec.Rec.{Rec}
use Rattle.entity_recs.specs.Bodies.{body_of}
use Rattle.player_move.specs.declared.walk.Walked.{Walked}
use Rattle.player_move.specs.Intents.{Intent}
use Rattle.player_move.specs.Velocities.{jumps, walks, velocity_after}
use Rattle.player_move.specs.Walks.{ground_of, flat_square, goes_farther, are_taken, stairs_of, walk_of}
use Rattle.player_move.specs.Moves.{body_after, moved_by, move_of}
use Rattle.player_move.specs.Laws.{flat_square_of, GoesNoLessFar, MoveGoesNoLessFar, LeadFarther, IsTheFarther, StairsAreTaken}
use Rattle.player_move.proofs.Walking.{plain_of}
use Rattle.player_move.proofs.WholeMoves.{standing-moved}

-- ---- what a walk is
-- the walk is its slide, or it walks where that meets a side, leads strictly farther, and ends level on the ground
data Leads (walking : Bool) (body : Bounds) (slid : Slid) (solids : List Bounds) (walk : Walked) : Type 0 where
  slides : walk ≡ plain_of slid → Leads walking body slid solids walk
  climbs : walking ≡ true → slid.side ≡ true → flat_square slid.shift < flat_square walk.shift → ground_of (box_moved_by body walk.shift) solids ≡ true → walk.vel.z ≡ pos 0 → Leads walking body slid solids walk

choose : (P : Walked → Type 0) (b : Bool) (stairs plain : Walked) → (b ≡ true → P stairs) → P plain → P (if b then stairs else plain)
choose P true stairs plain where_taken else_plain = where_taken refl
choose P false stairs plain where_taken else_plain = else_plain

module _ (walking : Bool) (body : Bounds) (slid : Slid) (solids : List Bounds) (stairs : Walked) where
  climbs_where_taken : stairs.vel.z ≡ pos 0 → (walking && slid.side && are_taken body stairs.shift slid.shift solids) ≡ true → Leads walking body slid solids stairs
  climbs_where_taken flat taken =
      let parts = and_parts (walking && slid.side) (are_taken body stairs.shift slid.shift solids) taken in
      let ends = and_parts (goes_farther stairs.shift slid.shift) (ground_of (box_moved_by body stairs.shift) solids) parts.1 in
      let first = and_parts walking slid.side parts.0 in
      climbs first.0 first.1 (ltb-true (flat_square slid.shift) (flat_square stairs.shift) ends.0) ends.1 flat

stairs_are_level : (body : Bounds) (vel : Vec3) (ms : ℕ) (solids : List Bounds) → (stairs_of body vel ms solids).vel.z ≡ pos 0
unfolding stairs_of
stairs_are_level body vel ms solids = refl

walk_leads : (walking : Bool) (body : Bounds) (vel : Vec3) (ms : ℕ) (solids : List Bounds) → Leads walking body (slide_of body vel ms solids) solids (walk_of walking body vel ms solids)
unfolding walk_of
walk_leads walking body vel ms solids =
    choose (Leads walking body (slide_of body vel ms solids) solids) _ (stairs_of body vel ms solids) _
    (climbs_where_taken walking body (slide_of body vel ms solids) solids (stairs_of body vel ms solids) (stairs_are_level body vel ms solids))
    (slides refl)

-- ---- what a move is
minus-plus : (from shift : Vec3) → minus (plus from shift) from ≡ shift
minus-plus from shift =
    λ i. record { x = back from.x shift.x i; y = back from.y shift.y i; z = back from.z shift.z i } where
      back : (a b : ℤ) → (a +ℤ b) -ℤ a ≡ b
      back a b = omega (arith, ints)

flat_square_by : (me : Rec) (walk : Walked) (ground : Bool) → flat_square_of me (moved_by me.origin walk ground) ≡ flat_square walk.shift
flat_square_by me walk ground = ap flat_square (minus-plus me.origin walk.shift)

body_by : (me : Rec) (walk : Walked) (ground : Bool) → body_after me (moved_by me.origin walk ground) ≡ box_moved_by (body_of me) walk.shift
body_by me walk ground = standing-moved me.origin walk.shift me.mins me.maxs

no_less_far : (me : Rec) (cmd : Intent) (solids : List Bounds) (slid : Slid) (walk : Walked) → Leads (walks (ground_of (body_of me) solids) cmd) (body_of me) slid solids walk → GoesNoLessFar me cmd solids slid (moved_by me.origin walk (ground_of (body_of me) solids))
no_less_far me cmd solids slid walk (slides is) = record {
  no_less_far = omega (arith, flat_square_by me walk (ground_of (body_of me) solids), ap (λ (w : Walked). flat_square w.shift) is);
  either = inl (record { origin = ap (λ (w : Walked). plus me.origin w.shift) is; vel = ap (λ (w : Walked). w.vel) is });
}
no_less_far me cmd solids slid walk (climbs walking side farther on_ground flat) = record {
  no_less_far = omega (arith, flat_square_by me walk (ground_of (body_of me) solids), farther);
  either = inr (record {
    walks = walking;
    side = side;
    farther = omega (arith, flat_square_by me walk (ground_of (body_of me) solids), farther);
    on_ground = ap (λ (b : Bounds). ground_of b solids) (body_by me walk (ground_of (body_of me) solids)) ∙ on_ground;
    level = flat;
  });
}

pub move_goes_no_less_far : MoveGoesNoLessFar
unfolding move_of
move_goes_no_less_far me cmd solids =
    let ground = ground_of (body_of me) solids in
    no_less_far me cmd solids _ _ (walk_leads (walks ground cmd) (body_of me) (velocity_after ground me cmd) cmd.ms solids)

-- ---- the stairs
-- to walk is to be on the ground and not to jump
walks_where : (on_ground : Bool) (cmd : Intent) → on_ground ≡ true → cmd.buttons % 2 ≢ 1 → walks on_ground cmd ≡ true
walks_where on_ground cmd ground stays = both_true ground (ap not (ne_eqb (cmd.buttons % 2) 1 stays))

walks_from : (on_ground : Bool) (cmd : Intent) → walks on_ground cmd ≡ true → (on_ground ≡ true) × (cmd.buttons % 2 ≢ 1)
walks_from on_ground cmd is =
    let parts = and_parts on_ground (not (jumps cmd)) is in
    (parts.0, λ e. both_ways (not (jumps cmd)) (ap not (eq-eqb (cmd.buttons % 2) 1 e)) parts.1)

-- the test of the stairs says what it means
taken_where : (me : Rec) (cmd : Intent) (solids : List Bounds) (slid : Slid) (stairs : Walked) → LeadFarther me cmd solids slid stairs
    → (walks (ground_of (body_of me) solids) cmd && slid.side && are_taken (body_of me) stairs.shift slid.shift solids) ≡ true
taken_where me cmd solids slid stairs lead =
    both_true (both_true (walks_where _ cmd lead.begins lead.stays) lead.side) (both_true (lt-ltb (flat_square slid.shift) (flat_square stairs.shift) lead.farther) lead.on_ground)

lead_where : (me : Rec) (cmd : Intent) (solids : List Bounds) (slid : Slid) (stairs : Walked)
    → (walks (ground_of (body_of me) solids) cmd && slid.side && are_taken (body_of me) stairs.shift slid.shift solids) ≡ true → LeadFarther me cmd solids slid stairs
lead_where me cmd solids slid stairs taken =
    let parts = and_parts (walks (ground_of (body_of me) solids) cmd && slid.side) (are_taken (body_of me) stairs.shift slid.shift solids) taken in
    let ends = and_parts (goes_farther stairs.shift slid.shift) (ground_of (box_moved_by (body_of me) stairs.shift) solids) parts.1 in
    let first = and_parts (walks (ground_of (body_of me) solids) cmd) slid.side parts.0 in
    let walking = walks_from (ground_of (body_of me) solids) cmd first.0 in
    record { begins = walking.0; stays = walking.1; side = first.1; farther = ltb-true (flat_square slid.shift) (flat_square stairs.shift) ends.0; on_ground = ends.1 }

the_farther : (me : Rec) (cmd : Intent) (solids : List Bounds) (slid : Slid) (stairs : Walked) (ground taken : Bool)
    → (walks (ground_of (body_of me) solids) cmd && slid.side && are_taken (body_of me) stairs.shift slid.shift solids) ≡ taken
    → IsTheFarther me cmd solids slid stairs (moved_by me.origin (if taken then stairs else plain_of slid) ground)
the_farther me cmd solids slid stairs ground true is = record {
  taken = λ lead. record { origin = refl; vel = refl };
  left = λ not_so. absurd (not_so (lead_where me cmd solids slid stairs is));
}
the_farther me cmd solids slid stairs ground false is = record {
  taken = λ lead. absurd (both_ways _ is (taken_where me cmd solids slid stairs lead));
  left = λ not_so. record { origin = refl; vel = refl };
}

pub stairs_are_taken : StairsAreTaken
unfolding move_of walk_of
stairs_are_taken me cmd solids =
    let ground = ground_of (body_of me) solids in
    let vel = velocity_after ground me cmd in
    the_farther me cmd solids (slide_of (body_of me) vel cmd.ms solids) (stairs_of (body_of me) vel cmd.ms solids) ground _ refl
