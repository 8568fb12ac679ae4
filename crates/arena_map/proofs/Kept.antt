-- How a map is kept: as its bounds, its solids, its spawns, the lines of its things, their records and the shafts.
use Rattle.std.proofs.Common.{◌≡◌, ℕ, ◌+◌, ◌≤◌, true, List, [], ◌∷◌, ◌++◌, length, drop, filter_map, option_to_list, Option, Some, None, All, sym, ap, ◌∙◌, refl, subst, append_assoc, arith}
use Rattle.std.specs.List.{AllByRecursion}
use Rattle.std.proofs.lemmas.List.Elements.{All-head, All-tail, filter_map-append}
use Rattle.arena_geo.specs.declared.vec3.Vec3.{Vec3}
use Rattle.arena_geo.specs.Bounds.{Bounds}
use Rattle.box_trace.specs.Walls.{walls_of}
use Rattle.entity_recs.specs.declared.rec.Rec.{Rec}
use Rattle.arena_map.specs.declared.map_line.MapLine.{MapLine}
use Rattle.arena_map.specs.declared.limits.TheConstants.{MOST_THINGS}
use Rattle.arena_map.specs.declared.settings.Settings.{Settings}
use Rattle.arena_map.specs.MapLines.{is_thing_line}
use Rattle.arena_map.specs.Positions.{shaft_of}
use Rattle.arena_map.specs.Things.{record_of, records_from}
use Rattle.arena_map.specs.Maps.{MapView, map_of, IsThingInside, IsMap, IsKept}
use Rattle.arena_map.proofs.Counting.{all-counted}

-- the blocks with one more are the solids with one more, after the walls
drop-push : (arena : Bounds) (solids blocks : List Bounds) (block : Bounds) → solids ≡ walls_of arena ++ blocks
    → drop 6 (solids ++ block ∷ []) ≡ blocks ++ block ∷ []
drop-push arena solids blocks block e = ap (λ s. drop 6 (s ++ block ∷ [])) e

-- what is kept after a block was pushed
pub kept-with_block : (arena : Bounds) (solids : List Bounds) (spawns : List Vec3) (things : List MapLine) (entities : List Rec) (shafts : List Bounds) (settings : Settings) (block : Bounds) (new : List Bounds)
    → IsKept arena solids spawns things entities shafts settings → IsMap (map_of arena (drop 6 solids ++ block ∷ []) spawns things settings)
    → new ≡ solids ++ block ∷ [] → IsKept arena new spawns things entities shafts settings
kept-with_block arena solids spawns things entities shafts settings block new kept is e =
    let P : List Bounds → Type 0 = λ s. IsKept arena s spawns things entities shafts settings in
    let blocks = drop 6 solids in
    let dropped = drop-push arena solids blocks block kept.solids_are in
    let M : List Bounds → Type 0 = λ b. IsMap (map_of arena b spawns things settings) in
    subst P (sym e) (record {
      solids_are = ap (λ s. s ++ block ∷ []) kept.solids_are ∙ append_assoc (walls_of arena) blocks (block ∷ []) ∙ ap (λ b. walls_of arena ++ b) (sym dropped);
      entities_are = kept.entities_are;
      shafts_are = kept.shafts_are;
      is_map = subst M (sym dropped) is;
    })

-- the same of a spawn
pub kept-with_spawn : (arena : Bounds) (solids : List Bounds) (spawns : List Vec3) (things : List MapLine) (entities : List Rec) (shafts : List Bounds) (settings : Settings) (at : Vec3) (new : List Vec3)
    → IsKept arena solids spawns things entities shafts settings → IsMap (map_of arena (drop 6 solids) (spawns ++ at ∷ []) things settings)
    → new ≡ spawns ++ at ∷ [] → IsKept arena solids new things entities shafts settings
kept-with_spawn arena solids spawns things entities shafts settings at new kept is e =
    let P : List Vec3 → Type 0 = λ s. IsKept arena solids s things entities shafts settings in
    subst P (sym e) (record {
      solids_are = kept.solids_are;
      entities_are = kept.entities_are;
      shafts_are = kept.shafts_are;
      is_map = is;
    })

-- ---- settings

-- ---- things

-- the records of one thing more
pub records-push : (first : ℕ) (things : List MapLine) (line : MapLine)
    → records_from first (things ++ line ∷ []) ≡ records_from first things ++ record_of (first + length things) line ∷ []
records-push first [] line = let id : first ≡ first + 0 = omega arith in ap (λ n. record_of n line ∷ []) id
records-push first (l ∷ things) line =
    let id : (first + 1) + length things ≡ first + length (l ∷ things) = omega arith in
    ap (λ rs. record_of first l ∷ rs) (records-push (first + 1) things line)
    ∙ ap (λ n. record_of first l ∷ (records_from (first + 1) things ++ record_of n line ∷ [])) id

-- there are as many as things
pub records-count : (first : ℕ) (things : List MapLine) → length (records_from first things) ≡ length things
records-count first [] = refl
records-count first (l ∷ things) = let more = records-count (first + 1) things in omega (arith, more)

one_shaft : (o : Option Bounds) (line : MapLine) → shaft_of line ≡ o → filter_map shaft_of (line ∷ []) ≡ option_to_list (shaft_of line)
one_shaft None line e = rw e refl
one_shaft (Some s) line e = rw e refl

-- the shafts of one thing more
shafts-push : (things : List MapLine) (line : MapLine) → filter_map shaft_of (things ++ line ∷ []) ≡ filter_map shaft_of things ++ option_to_list (shaft_of line)
shafts-push things line = filter_map-append shaft_of things (line ∷ []) ∙ ap (λ s. filter_map shaft_of things ++ s) (one_shaft (shaft_of line) line refl)

-- what is kept after the parts of a thing were pushed
pub kept-with_thing : (arena : Bounds) (solids : List Bounds) (spawns : List Vec3) (things : List MapLine) (entities : List Rec) (shafts : List Bounds) (settings : Settings) (line : MapLine) (id : ℕ)
    (new_things : List MapLine) (new_entities : List Rec) (new_shafts : List Bounds)
    → IsKept arena solids spawns things entities shafts settings → IsMap (map_of arena (drop 6 solids) spawns (things ++ line ∷ []) settings)
    → id ≡ 64 + length things → new_things ≡ things ++ line ∷ [] → new_entities ≡ entities ++ record_of id line ∷ [] → new_shafts ≡ shafts ++ option_to_list (shaft_of line)
    → IsKept arena solids spawns new_things new_entities new_shafts settings
kept-with_thing arena solids spawns things entities shafts settings line id new_things new_entities new_shafts kept is at e f g =
    let P : List MapLine → Type 0 = λ t. IsKept arena solids spawns t new_entities new_shafts settings in
    subst P (sym e) (record {
      solids_are = kept.solids_are;
      entities_are = f ∙ ap (λ rs. rs ++ record_of id line ∷ []) kept.entities_are ∙ ap (λ n. records_from 64 things ++ record_of n line ∷ []) at ∙ sym (records-push 64 things line);
      shafts_are = g ∙ ap (λ s. s ++ option_to_list (shaft_of line)) kept.shafts_are ∙ sym (shafts-push things line);
      is_map = is;
    })

-- ---- how many

-- of each element, by recursion
pub each-of : {X : Type 0} (P Q : X → Type 0) (xs : List X) → ((x : X) → P x → Q x) → All P xs → AllByRecursion Q xs
each-of P Q [] gives each = tt
each-of P Q (x ∷ xs) gives each = (gives x (All-head P x xs each), each-of P Q xs gives (All-tail P x xs each))

-- a map has no more things than there may be
pub few_things : (map : MapView) → IsMap map → length map.things ≤ MOST_THINGS
few_things map is =
    let all = all-counted map.things (each-of (IsThingInside map.bounds) (λ line. is_thing_line line ≡ true) map.things (λ line inside. inside.thing) is.things) in
    omega (arith, all, is.few_items, is.few_teleporters, is.few_goals, is.few_lifts)
