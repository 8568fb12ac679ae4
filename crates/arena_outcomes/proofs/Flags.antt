-- The flags of a player after its move.
use Rattle.std.specs.Prelude.{Any}
use Rattle.std.proofs.Common.{◌≡◌, ◌↔◌, ℕ, ◌/◌, ◌%◌, ◌≤◌, Bool, true, false, bit_or, List, ◌∷◌, Contains, ℤ, pos, neg_ℤ, ◌+ℤ◌, ◌-ℤ◌, ◌<ℤ◌, refl, sym, ap, ◌∙◌, subst, arith}
use Rattle.std.proofs.lemmas.Int.{ints}
use Rattle.std.proofs.lemmas.Bool.{both_ways}
use Rattle.std.proofs.lemmas.List.Elements.{Contains-append_right}
use Rattle.std.proofs.lemmas.List.Folds.{Any-from_list_any, list_any_at}
use Rattle.arena_geo.specs.declared.vec3.Vec3.{Vec3}
use Rattle.arena_geo.specs.Bounds.{Bounds}
use Rattle.arena_geo.specs.Boxes.{overlaps_on, overlaps, box_moved_by, is_blocked}
use Rattle.arena_geo.proofs.Containment.{three_pass, all_three}
use Rattle.entity_recs.specs.declared.bodies.TheConstants.{PLAYER_MINS, PLAYER_MAXS}
use Rattle.entity_recs.specs.declared.rec.Rec.{Rec}
use Rattle.entity_recs.specs.Records.{HasCorners}
use Rattle.entity_recs.specs.Bodies.{box_at_origin, body_of, player_body}
use Rattle.entity_recs.specs.Commands.{Command}
use Rattle.entity_recs.proofs.Ids.{player_shape}
use Rattle.player_move.specs.Walks.{downwards, ground_of}
use Rattle.player_move.proofs.Standings.{ground_is_tested}
use Rattle.arena_map.specs.Maps.{MapView}
use Rattle.trigger_rules.specs.Touching.{touched_by, solids_among, touched}
use Rattle.trigger_rules.specs.Laws.{IsPlayerOn}
use Rattle.trigger_rules.proofs.Taken.{stay_themselves, leaps_free, only_leaps}
use Rattle.trigger_rules.proofs.Doing.{teleporters_blocked}
use Rattle.trigger_rules.proofs.Leaping.{leaps_from_teleporters}
use Rattle.arena_outcomes.specs.Outcomes.{intent_of_command, flags_of, moved_among, outcome_in}
use Rattle.arena_outcomes.specs.Flags.{IsUnder, IsFreeTeleporter, AreFlagsOf, FlagsAreKnown}

-- ---- bit 0

-- on an axis that isn't changed
across_of : (at lo hi : ℤ) → overlaps_on ((at +ℤ neg_ℤ (pos 4096)) +ℤ pos 0) ((at +ℤ pos 4096) +ℤ pos 0) lo hi ≡ true
    → ((at -ℤ pos 4096) <ℤ hi) × (lo <ℤ (at +ℤ pos 4096))
across_of at lo hi h = (grind (arith, ints), grind (arith, ints))

of_across : (at lo hi : ℤ) → (at -ℤ pos 4096) <ℤ hi → lo <ℤ (at +ℤ pos 4096)
    → overlaps_on ((at +ℤ neg_ℤ (pos 4096)) +ℤ pos 0) ((at +ℤ pos 4096) +ℤ pos 0) lo hi ≡ true
of_across at lo hi high low = grind (arith, ints)

-- up and down, 1 lower
down_of : (at lo hi : ℤ) → overlaps_on ((at +ℤ neg_ℤ (pos 6144)) +ℤ neg_ℤ (pos 1)) ((at +ℤ pos 8192) +ℤ neg_ℤ (pos 1)) lo hi ≡ true
    → ((at -ℤ pos 6145) <ℤ hi) × (lo <ℤ (at +ℤ pos 8191))
down_of at lo hi h = (grind (arith, ints), grind (arith, ints))

of_down : (at lo hi : ℤ) → (at -ℤ pos 6145) <ℤ hi → lo <ℤ (at +ℤ pos 8191)
    → overlaps_on ((at +ℤ neg_ℤ (pos 6144)) +ℤ neg_ℤ (pos 1)) ((at +ℤ pos 8192) +ℤ neg_ℤ (pos 1)) lo hi ≡ true
of_down at lo hi high low = grind (arith, ints)

-- a player's body at this origin, 1 lower
abbrev lowered : Vec3 → Bounds
lowered at = box_moved_by (player_body at) (downwards 1)

under_of : (me : Rec) (solid : Bounds) → overlaps (lowered me.origin) solid ≡ true → IsUnder me solid
under_of me solid h =
    let t = three_pass _ _ _ h in
    let x = across_of me.origin.x solid.lo.x solid.hi.x t.x in
    let y = across_of me.origin.y solid.lo.y solid.hi.y t.y in
    let z = down_of me.origin.z solid.lo.z solid.hi.z t.z in
    record { to_high_x = x.0; from_low_x = x.1; to_high_y = y.0; from_low_y = y.1; bottom = z.0; top = z.1 }

of_under : (me : Rec) (solid : Bounds) → IsUnder me solid → overlaps (lowered me.origin) solid ≡ true
of_under me solid under =
    all_three
    (of_across me.origin.x solid.lo.x solid.hi.x under.to_high_x under.from_low_x)
    (of_across me.origin.y solid.lo.y solid.hi.y under.to_high_y under.from_low_y)
    (of_down me.origin.z solid.lo.z solid.hi.z under.bottom under.top)

-- the body of a record with a player's corners
player_is : (me : Rec) → HasCorners PLAYER_MINS PLAYER_MAXS me.mins me.maxs → body_of me ≡ player_body me.origin
player_is me corners = λ i. box_at_origin me.origin (corners.low_is i) (corners.high_is i)

-- the ground test of a player says that some solid is under it
module _ (me : Rec) (solids : List Bounds) (corners : HasCorners PLAYER_MINS PLAYER_MAXS me.mins me.maxs) where
  ground_any : ground_of (body_of me) solids ≡ true → Any (IsUnder me) solids
  unfolding ground_of
  ground_any h =
      let low = subst (λ (b : Bounds). is_blocked (box_moved_by b (downwards 1)) solids ≡ true) (player_is me corners) h in
      let any = Any-from_list_any (overlaps (lowered me.origin)) solids low in
      (any.0, any.1, any.2, any.3, under_of me any.1 any.4)

  any_ground : Any (IsUnder me) solids → ground_of (body_of me) solids ≡ true
  unfolding ground_of
  any_ground any =
      let low = list_any_at (overlaps (lowered me.origin)) solids any.0 any.1 any.2 (ap (overlaps (lowered me.origin)) any.3 ∙ of_under me any.1 any.4) in
      subst (λ (b : Bounds). is_blocked (box_moved_by b (downwards 1)) solids ≡ true) (sym (player_is me corners)) low

-- ---- the two bits of a number

bit_low : (g : Bool) → flags_of g % 2 ≡ 1 → g ≡ true
bit_low true h = refl
bit_low false h = cc

low_bit : (g : Bool) → g ≡ true → flags_of g % 2 ≡ 1
low_bit true h = refl
low_bit false h = cc

low_of_leapt : (g : Bool) → bit_or (flags_of g) 2 % 2 ≡ 1 → g ≡ true
low_of_leapt true h = refl
low_of_leapt false h = cc

leapt_low : (g : Bool) → g ≡ true → bit_or (flags_of g) 2 % 2 ≡ 1
leapt_low true h = refl
leapt_low false h = cc

none_high : (g : Bool) → flags_of g / 2 ≡ 1 → ⊥
none_high true h = cc
none_high false h = cc

leapt_high : (g : Bool) → bit_or (flags_of g) 2 / 2 ≡ 1
leapt_high true = refl
leapt_high false = refl

few : (g : Bool) → flags_of g ≤ 3
few true = omega arith
few false = omega arith

few_leapt : (g : Bool) → bit_or (flags_of g) 2 ≤ 3
few_leapt true = omega arith
few_leapt false = omega arith

-- ---- the flags

is_first : (r : Rec) (more : List Rec) → Contains (r ∷ more) r
is_first r more = (0, omega arith, refl)

module _ (arena : MapView) (me : Rec) (near : List Rec) (c : Command) (on : IsPlayerOn arena me) where
  abbrev there : Rec
  there = moved_among arena me near c

  abbrev ground : Bool
  ground = ground_of (body_of me) (solids_among arena near)

  corners : HasCorners PLAYER_MINS PLAYER_MAXS me.mins me.maxs
  corners = player_shape me on.is_record on.kind

  there_corners : HasCorners PLAYER_MINS PLAYER_MAXS there.mins there.maxs
  unfolding moved_among
  there_corners = corners

  there_flags : there.flags ≡ flags_of ground
  unfolding moved_among
  there_flags = ap flags_of (ground_is_tested me (intent_of_command c) (solids_among arena near))

  by_ground : (flags : ℕ) → (flags % 2 ≡ 1 → ground ≡ true) → (ground ≡ true → flags % 2 ≡ 1)
      → (flags % 2 ≡ 1) ↔ Any (IsUnder me) (solids_among arena near)
  by_ground flags low high =
      (λ h. ground_any me (solids_among arena near) corners (low h), λ any. high (any_ground me (solids_among arena near) corners any))

  -- where no teleporter moved it
  stayed : (touched arena c.frame there near).ended ≡ false → AreFlagsOf arena me near c (touched arena c.frame there near).me.flags
  stayed ended =
      let flags_are : (touched arena c.frame there near).me.flags ≡ flags_of ground = (only_leaps arena c.frame there near ended).flags ∙ there_flags in
      subst (AreFlagsOf arena me near c) (sym flags_are) (record {
        ground = by_ground (flags_of ground) (bit_low ground) (low_bit ground);
        leapt = (
          λ h. absurd (none_high ground h),
          λ any.
              let blocked = teleporters_blocked arena c.frame there near ended any.1 any.4.dest (any.0, any.2, any.3) any.4.kind any.4.dest_is in
              absurd (both_ways _ any.4.free blocked),
        );
        most = few ground;
      })

  -- where one did
  leapt : (touched arena c.frame there near).ended ≡ true → AreFlagsOf arena me near c (touched arena c.frame there near).me.flags
  leapt ended =
      let w = touched arena c.frame there near in
      let from = leaps_from_teleporters arena c.frame there near ended in
      let free = (leaps_free arena c.frame there near there_corners ended).free in
      let same = stay_themselves arena c.frame there near in
      let shape : HasCorners PLAYER_MINS PLAYER_MAXS w.me.mins w.me.maxs = record { low_is = same.mins ∙ there_corners.low_is; high_is = same.maxs ∙ there_corners.high_is } in
      let flags_are : w.me.flags ≡ bit_or (flags_of ground) 2 = from.flags ∙ ap (λ n. bit_or n 2) there_flags in
      let open_is : IsFreeTeleporter arena (solids_among arena near) from.teleporter =
      record { kind = from.kind; dest = w.me.origin; dest_is = from.dest; free = ap (λ (b : Bounds). is_blocked b (solids_among arena near)) (sym (player_is w.me shape)) ∙ free } in
      let listed : Contains (touched_by there near) from.teleporter = subst (λ (l : List Rec). Contains l from.teleporter) (sym from.touched_are) (Contains-append_right from.before (from.teleporter ∷ from.after) from.teleporter (is_first from.teleporter from.after)) in
      subst (AreFlagsOf arena me near c) (sym flags_are) (record {
        ground = by_ground (bit_or (flags_of ground) 2) (low_of_leapt ground) (leapt_low ground);
        leapt = (λ h. (listed.0, from.teleporter, listed.1, listed.2, open_is), λ any. leapt_high ground);
        most = few_leapt ground;
      })

  either : (b : Bool) → (touched arena c.frame there near).ended ≡ b → AreFlagsOf arena me near c (touched arena c.frame there near).me.flags
  either true ended = leapt ended
  either false ended = stayed ended

pub flags_are_known : FlagsAreKnown
unfolding outcome_in
flags_are_known arena me near c on = either arena me near c on (touched arena c.frame (moved_among arena me near c) near).ended refl
