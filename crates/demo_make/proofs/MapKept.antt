-- The map of generated recordings keeps the rules of maps.
use Rattle.std.proofs.Common.{◌≡◌, ℕ, ◌+◌, ◌≤◌, ◌<◌, Bool, true, false, [], ◌∷◌, map, All, refl, sym, ◌∙◌, subst, arith, lit≤}
use Rattle.std.specs.List.{range_with_len, list_all}
use Rattle.std.proofs.lemmas.Int.{ints}
use Rattle.std.proofs.lemmas.List.Elements.{All-cons, All-nil, All-map, All-append, All-get_or}
use Rattle.std.proofs.lemmas.List.FromFn.{length-range_with_len, get_or-range_with_len}
use Rattle.std.proofs.lemmas.List.Sums.{AllPass-from_list_all}
use Rattle.arena_geo.specs.Boxes.{contains, is_blocked}
use Rattle.arena_map.specs.declared.map_line.MapLine.{MapLine}
use Rattle.arena_map.specs.Positions.{is_thick, is_player_inside, keeps_item}
use Rattle.arena_map.specs.Maps.{IsSpawn, IsBlock, IsThingInside, IsMap}
use Rattle.demo_make.specs.GeneratedMap.{arena, spawn_at, block_at, item_line, low_teleport, high_teleport, goal_line, lift_line, things, generated_map}
use Rattle.demo_make.specs.Laws.{MapIsKnown}
use Rattle.demo_make.proofs.Lines.{spawn-near, corner-near, item-near}

-- what holds of each number of a range holds of all of it
pub range-all : (P : ℕ → Type 0) (a n : ℕ) → ((i : ℕ) → a ≤ i → i < a + n → P i) → All P (range_with_len a n)
range-all P a n each = λ k d h.
    let below : k < n = omega (arith, h, length-range_with_len a n) in
    subst P (sym (get_or-range_with_len a n k d below)) (each (a + k) (omega arith) (omega arith))

-- a test that passes on all of a range passes at each number of it
pub pass-at : (p : ℕ → Bool) (n i : ℕ) → list_all p (range_with_len 0 n) ≡ true → i < n → p i ≡ true
pass-at p n i all below =
    let got = All-get_or (λ k. p k ≡ true) (range_with_len 0 n) i 0 (omega (arith, length-range_with_len 0 n)) (AllPass-from_list_all p (range_with_len 0 n) all) in
    let same = get_or-range_with_len 0 n i 0 below in
    let zero_more : 0 + i ≡ i = omega arith in
    subst (λ k. p k ≡ true) (same ∙ zero_more) got

spawn-is : (i : ℕ) → i < 64 → IsSpawn arena (spawn_at i)
spawn-is i below = record { near = spawn-near i below; inside = pass-at (λ k. is_player_inside arena (spawn_at k)) 64 i refl below }

block-is : (j : ℕ) → j < 16 → IsBlock arena (block_at j)
block-is j below =
    let near = corner-near j below in
    record {
      is_box = record {
        ordered = record { x = omega (arith, ints); y = omega (arith, ints); z = omega (arith, ints) };
        in_range = record {
          lo = record { x = omega (arith, near.x); y = omega (arith, near.y); z = omega arith };
          hi = record { x = omega (arith, ints, near.x); y = omega (arith, ints, near.y); z = omega arith };
        };
      };
      thick = pass-at (λ k. is_thick (block_at k).lo (block_at k).hi) 16 j refl below;
      inside = pass-at (λ k. contains arena (block_at k)) 16 j refl below;
    }

item-is : (j : ℕ) → j < 16 → IsThingInside arena (item_line j)
item-is j below = record {
  thing = refl;
  limits = item-near j below;
  inside = refl;
  stand = refl;
  item = pass-at (λ k. keeps_item arena (item_line k)) 16 j refl below;
  travel = refl;
}

low-is : IsThingInside arena low_teleport
low-is = record {
  thing = refl;
  limits = (record { x = omega arith; y = omega arith; z = omega arith }, record { x = omega arith; y = omega arith; z = omega arith }, record { x = omega arith; y = omega arith; z = omega arith });
  inside = refl;
  stand = refl;
  item = refl;
  travel = refl;
}

high-is : IsThingInside arena high_teleport
high-is = record {
  thing = refl;
  limits = (record { x = omega arith; y = omega arith; z = omega arith }, record { x = omega arith; y = omega arith; z = omega arith }, record { x = omega arith; y = omega arith; z = omega arith });
  inside = refl;
  stand = refl;
  item = refl;
  travel = refl;
}

goal-is : IsThingInside arena goal_line
goal-is = record {
  thing = refl;
  limits = (record { x = omega arith; y = omega arith; z = omega arith }, record { x = omega arith; y = omega arith; z = omega arith });
  inside = refl;
  stand = refl;
  item = refl;
  travel = refl;
}

lift-is : IsThingInside arena lift_line
lift-is = record {
  thing = refl;
  limits = (record { x = omega arith; y = omega arith; z = omega arith }, record { x = omega arith; y = omega arith; z = omega arith }, omega (arith, ints), omega (arith, ints), omega (arith, ints), omega (arith, ints));
  inside = refl;
  stand = refl;
  item = refl;
  travel = refl;
}

others-are : All (IsThingInside arena) (low_teleport ∷ high_teleport ∷ goal_line ∷ lift_line ∷ [])
others-are =
    let P : MapLine → Type 0 = IsThingInside arena in
    All-cons P low_teleport (high_teleport ∷ goal_line ∷ lift_line ∷ []) low-is
    (All-cons P high_teleport (goal_line ∷ lift_line ∷ []) high-is
    (All-cons P goal_line (lift_line ∷ []) goal-is (All-cons P lift_line [] lift-is (All-nil P))))

things-are : All (IsThingInside arena) things
things-are = All-append (IsThingInside arena) (map item_line (range_with_len 0 16)) (low_teleport ∷ high_teleport ∷ goal_line ∷ lift_line ∷ [])
    (All-map (IsThingInside arena) item_line (range_with_len 0 16) (range-all (λ j. IsThingInside arena (item_line j)) 0 16 (λ j _ below. item-is j (omega arith))))
    others-are

pub generated_is_map : IsMap generated_map
generated_is_map = record {
  is_box = record {
    ordered = record { x = omega (arith, ints); y = omega (arith, ints); z = omega (arith, ints) };
    in_range = record {
      lo = record { x = omega arith; y = omega arith; z = omega arith };
      hi = record { x = omega arith; y = omega arith; z = omega arith };
    };
  };
  lo = record { x = omega arith; y = omega arith; z = omega arith };
  hi = record { x = omega arith; y = omega arith; z = omega arith };
  wide = refl;
  blocks = All-map (IsBlock arena) block_at (range_with_len 0 16) (range-all (λ j. IsBlock arena (block_at j)) 0 16 (λ j _ below. block-is j (omega arith)));
  few_blocks = lit≤ tt;
  spawns = All-map (IsSpawn arena) spawn_at (range_with_len 0 64) (range-all (λ i. IsSpawn arena (spawn_at i)) 0 64 (λ i _ below. spawn-is i (omega arith)));
  few_spawns = lit≤ tt;
  things = things-are;
  few_items = lit≤ tt;
  few_teleporters = lit≤ tt;
  few_goals = lit≤ tt;
  few_lifts = lit≤ tt;
  clear_shafts = All-cons (λ shaft. is_blocked shaft generated_map.blocks ≡ false) _ [] refl (All-nil (λ shaft. is_blocked shaft generated_map.blocks ≡ false));
  shafts_apart = λ i j d below within. absurd (omega arith);
  depth = record { least = omega arith; most = omega arith };
  few_depth_lines = omega arith;
  default_depth = λ none. refl;
  shots_line = refl;
  limit = record {
    range = record { least = omega arith; most = omega arith };
    few_lines = omega arith;
    default = λ none. refl;
    first = refl;
  };
}

pub map_is_known : MapIsKnown
map_is_known = record {
  is_map = generated_is_map;
  lines = refl;
  limit = refl;
  spawns = refl;
  blocks = refl;
  items = refl;
  teleporters = refl;
  goals = refl;
  lifts = refl;
  depth = refl;
  shots = refl;
}
