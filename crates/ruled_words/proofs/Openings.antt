-- The world at the start is one that a table may begin with.
use Rattle.std.proofs.Common.{◌≡◌, ℕ, true, List, [], ◌∷◌, map, Result, Ok, Err, sym, ap, subst, All}
use Rattle.std.specs.Prelude.{OnOk}
use Rattle.std.specs.List.{AllByRecursion}
use Rattle.std.proofs.lemmas.List.Elements.{recursion_from_All, All-from_recursion}
use Rattle.entity_recs.specs.declared.rec.Rec.{Rec}
use Rattle.std.specs.List.Sorted.{IsStrictlyIncreasing}
use Rattle.entity_recs.specs.Worlds.{World, record_with}
use Rattle.world_tree.specs.Live.{live_in, ids_of}
use Rattle.world_tree.specs.Worlds.{WorldView, IsLinked}
use Rattle.world_tree.proofs.Rising.{live_ids_rise}
use Rattle.core_steps.specs.Nodes.{Fixed}
use Rattle.core_steps.specs.Stands.{IsStart, start_core}
use Rattle.core_seats.proofs.NearLists.{AreFound, found_at_ids}
use Rattle.ruled_words.specs.Numbers.{HasSmallNumbers}
use Rattle.ruled_words.specs.Starts.{world_at_start, fixed_of_world, AreStartWords}
use Rattle.ruled_words.specs.Rule.{HasWords}

found_own : (f : ℕ → Rec) (rs : List Rec) → AreFound f rs → AllByRecursion (λ id. (f id).id ≡ id) (map (λ (r : Rec). r.id) rs)
found_own f [] found = tt
found_own f (r ∷ rs) found = (ap (λ (x : Rec). x.id) found.0, found_own f rs found.1)

found_all : (P : Rec → Type 0) (f : ℕ → Rec) (rs : List Rec) → AreFound f rs → AllByRecursion P rs → AllByRecursion P (map f (map (λ (r : Rec). r.id) rs))
found_all P f [] found all = tt
found_all P f (r ∷ rs) found all = (subst P (sym found.0) all.0, found_all P f rs found.1 all.1)

pub world_starts : (F : Fixed) (w : WorldView) → F.start ≡ world_at_start w → IsLinked w → All (λ (r : Rec). F.takes r ≡ true) (live_in w.records) → IsStart F
world_starts F w is linked taken =
    let P : Rec → Type 0 = λ r. F.takes r ≡ true in
    let rs : List Rec = live_in w.records in
    let rising : IsStrictlyIncreasing (map (λ (r : Rec). r.id) rs) = live_ids_rise w linked in
    let found = found_at_ids rs rising in
    record {
      rising = subst (λ (x : World). IsStrictlyIncreasing x.ids) (sym is) rising;
      own = subst (λ (x : World). All (λ id. (x.record_of id).id ≡ id) x.ids) (sym is) (All-from_recursion (λ id. (record_with rs id).id ≡ id) (ids_of w.records) (found_own (record_with rs) rs found));
      taken = subst (λ (x : World). All P (map x.record_of x.ids)) (sym is) (All-from_recursion P (map (record_with rs) (ids_of w.records)) (found_all P (record_with rs) rs found (recursion_from_All P rs taken)));
    }

-- so it is where the action takes each live record whose numbers are small, as those of all that were read are
pub world_starts_if : (F : Fixed) (w : WorldView) (read : List Rec) → F.start ≡ world_at_start w → IsLinked w → read ≡ live_in w.records → All HasSmallNumbers read
    → All (λ (r : Rec). HasSmallNumbers r → F.takes r ≡ true) (live_in w.records) → IsStart F
world_starts_if F w read is linked are small taken =
    let small_live : All HasSmallNumbers (live_in w.records) = subst (All HasSmallNumbers) are small in
    world_starts F w is linked (λ k d inside. taken k d inside (small_live k d inside))

-- what holds whatever was made holds where it was
pub on_ok : {X E P : Type 0} (r : Result X E) → P → OnOk r P
on_ok (Ok x) holds = holds
on_ok (Err e) holds = tt

-- the words at the start are those of the core at the start
pub words_laid : (F : Fixed) (w : WorldView) (words : List ℕ) (room : ℕ) → F.start ≡ world_at_start w → F.tree ≡ w.tree → AreStartWords w words → HasWords words (start_core F room)
words_laid F w words room is tree are =
    let G : Fixed = record (fixed_of_world w) { takes = F.takes; region_of = F.region_of; effect_of = F.effect_of } in
    let same : G ≡ F = λ i. record { takes = F.takes; region_of = F.region_of; effect_of = F.effect_of; tree = sym tree i; start = sym is i } in
    subst (λ (H : Fixed). HasWords words (start_core H room)) same (record { count = are.count; each = are.each })
