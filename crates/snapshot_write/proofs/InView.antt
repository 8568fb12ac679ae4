-- What a walk along the live ids finds in a view, and that a player sees at most all ids but its own.
use Rattle.std.proofs.Common.{◌≡◌, ℕ, zero, suc, ◌+◌, ◌*◌, ◌<◌, ◌≤◌, ◌==◌, Bool, true, false, ◌&&◌, not, cond, if◌then◌else◌, List, [], ◌∷◌, ◌++◌, length, length-append, map, filter, flat_map, drop, get_or, Option, Some, None, is_some, append_assoc, zero-add, sym, refl, ap, ◌∙◌, arith}
use Rattle.std.specs.Option.{option_map}
use Rattle.std.proofs.lemmas.List.{drop_more, get_or-map, length-map}
use Rattle.std.proofs.lemmas.Option.{none-some, same_Some}
use Rattle.std.proofs.Math.Bool.{and-false}
use Rattle.std.proofs.lemmas.Bool.{eq-eqb}
use Rattle.arena_geo.specs.Bounds.{Bounds}
use Rattle.arena_geo.specs.Boxes.{touches}
use Rattle.entity_recs.specs.declared.kind.Kind.TheVariants.{Player}
use Rattle.entity_recs.specs.declared.rec.Rec.{Rec}
use Rattle.entity_recs.specs.Bodies.{abs_of}
use Rattle.world_tree.specs.Live.{record_at, live_in, ids_of, AreEntries}
use Rattle.entity_recs.specs.declared.limits.TheConstants.{IDS}
use Rattle.snapshot_write.specs.declared.reply_buf.TheConstants.{REPLY_ROOM}
use Rattle.snapshot_write.specs.declared.seen.TheConstants.{MOST_SEEN}
use Rattle.snapshot_write.specs.Snapshots.{sight, view_of, entity_bytes, is_in_view, in_view_at, in_view, is_seen, seen_by}

-- ---- a walk along the live ids

-- any record, for places past the end of a list
abbrev pub nobody : Rec
nobody = record {
  id = 0;
  kind = Player;
  origin = sight;
  mins = sight;
  maxs = sight;
  vel = sight;
  flags = 0;
  ammo = 0;
  carry = 0;
  score = 0;
  seq = 0;
  state = 0;
}

-- the live record at this place in their order
abbrev pub live_at : List (Option Rec) → ℕ → Rec
live_at records k = get_or (live_in records) k nobody

by_ids : (records : List (Option Rec)) (ids : List ℕ) (k : ℕ) → ids ≡ ids_of records → k < length ids → k < length (live_in records)
by_ids records ids k are below =
    let same : length (ids_of records) ≡ length (live_in records) = simp length-map in
    omega (arith, ap (λ (l : List ℕ). length l) are)

-- its id has it, where f gives the record of each place
id-has_record : (start : ℕ) (f : ℕ → Option Rec) (records : List (Option Rec)) → ((i : ℕ) → f (start + i) ≡ record_at records i)
    → ((i : ℕ) (r : Rec) → record_at records i ≡ Some r → r.id ≡ start + i)
    → (k : ℕ) → k < length (live_in records) → f (live_at records k).id ≡ Some (live_at records k)
id-has_record start f [] gives own k below = absurd (omega arith)
id-has_record start f (None ∷ records) gives own k below =
    id-has_record (start + 1) f records
    (λ i. let later : start + 1 + i ≡ start + suc i = omega arith in ap f later ∙ gives (suc i))
    (λ i r e. own (suc i) r e ∙ omega arith) k below
id-has_record start f (Some r ∷ records) gives own zero below = ap f (own 0 r refl) ∙ gives 0
id-has_record start f (Some r ∷ records) gives own (suc k) below =
    id-has_record (start + 1) f records
    (λ i. let later : start + 1 + i ≡ start + suc i = omega arith in ap f later ∙ gives (suc i))
    (λ i x e. own (suc i) x e ∙ omega arith) k (omega arith)

-- the ids of records
abbrev pub ids_in : List Rec → List ℕ
ids_in records = map (λ (r : Rec). r.id) records

length-ids : (records : List Rec) → length (ids_in records) ≡ length records
length-ids records = simp length-map

-- the live id at a place is that of the live record there
id-at_live : (records : List (Option Rec)) (ids : List ℕ) (k d : ℕ) → ids ≡ ids_of records → k < length ids → get_or ids k d ≡ (live_at records k).id
id-at_live records ids k d are below =
    ap (λ l. get_or l k d) are ∙ get_or-map (λ (r : Rec). r.id) (live_in records) k nobody d (by_ids records ids k are below)

-- the record of the live id at a place is the live record there
pub record-at_live : (records : List (Option Rec)) (ids : List ℕ) (k d : ℕ) → AreEntries records → ids ≡ ids_of records → k < length ids
    → record_at records (get_or ids k d) ≡ Some (live_at records k)
record-at_live records ids k d entries are below =
    let within : k < length (live_in records) = by_ids records ids k are below in
    ap (record_at records) (id-at_live records ids k d are below)
    ∙ id-has_record 0 (record_at records) records (λ i. ap (record_at records) (zero-add i)) (λ i r e. (entries i r e).own_id ∙ omega arith) k within

-- ---- whether an id is in the view, by its box

is_some-if : (b : Bool) (r : Rec) → is_some (if b then Some r else None) ≡ b
is_some-if true r = refl
is_some-if false r = refl

pub seen_by_box : (place : Option Rec) (box view : Bounds) (me id : ℕ) → Some box ≡ option_map abs_of place → ((r : Rec) → place ≡ Some r → r.id ≡ id)
    → (touches box view && not (id == me)) ≡ is_some (in_view_at view me place)
seen_by_box None box view me id is own = absurd (none-some box (sym is))
seen_by_box (Some r) box view me id is own =
    ap (λ b. touches b view && not (id == me)) (same_Some box (abs_of r) is)
    ∙ ap (λ n. touches (abs_of r) view && not (n == me)) (sym (own r refl))
    ∙ sym (is_some-if (is_in_view view me r) r)

-- ---- what a loop over the live ids keeps

-- the ids found so far and those of the records in view that are left are all
abbrev pub KeepsIds : List (Option Rec) → ℕ → Bounds → ℕ → List ℕ → Type 0
KeepsIds records me view k found = found ++ ids_in (in_view view me (drop k (live_in records))) ≡ ids_in (in_view view me (live_in records))

module _ (records : List (Option Rec)) (ids : List ℕ) (k d me : ℕ) (view : Bounds) (entries : AreEntries records) (are : ids ≡ ids_of records) (below : k < length ids) where
  -- the live record at the place, and those after it
  live-from : drop k (live_in records) ≡ live_at records k ∷ drop (k + 1) (live_in records)
  live-from = drop_more (live_in records) k nobody (by_ids records ids k are below)

  -- it is in the view where its id is found there
  test-is : is_some (in_view_at view me (record_at records (get_or ids k d))) ≡ is_in_view view me (live_at records k)
  test-is =
      ap (λ (o : Option Rec). is_some (in_view_at view me o)) (record-at_live records ids k d entries are below)
      ∙ is_some-if (is_in_view view me (live_at records k)) (live_at records k)

  -- those in the view after it
  abbrev rest : List Rec
  rest = in_view view me (drop (k + 1) (live_in records))

  seen-first : (b : Bool) → is_some (in_view_at view me (record_at records (get_or ids k d))) ≡ b
      → in_view view me (drop k (live_in records)) ≡ (if b then live_at records k ∷ rest else rest)
  seen-first b seen = ap (in_view view me) live-from ∙ ap (λ test. if test then live_at records k ∷ rest else rest) (sym test-is ∙ seen)

  pub keeps_seen : (found : List ℕ) → is_some (in_view_at view me (record_at records (get_or ids k d))) ≡ true
      → KeepsIds records me view k found → KeepsIds records me view (k + 1) (found ++ get_or ids k d ∷ [])
  keeps_seen found seen keeps =
      append_assoc found (get_or ids k d ∷ []) (ids_in rest)
      ∙ ap (λ id. found ++ id ∷ ids_in rest) (id-at_live records ids k d are below)
      ∙ ap (λ (l : List Rec). found ++ ids_in l) (sym (seen-first true seen)) ∙ keeps

  pub passes_unseen : (found : List ℕ) → is_some (in_view_at view me (record_at records (get_or ids k d))) ≡ false
      → KeepsIds records me view k found → KeepsIds records me view (k + 1) found
  passes_unseen found unseen keeps = ap (λ (l : List Rec). found ++ ids_in l) (sym (seen-first false unseen)) ∙ keeps

  -- there is room for one that is seen
  pub room_for_one : (found : List ℕ) → is_some (in_view_at view me (record_at records (get_or ids k d))) ≡ true
      → length (in_view view me (live_in records)) ≤ MOST_SEEN → KeepsIds records me view k found → length found < MOST_SEEN
  room_for_one found seen few keeps =
      let all : length found + length (ids_in (in_view view me (drop k (live_in records)))) ≡ length (ids_in (in_view view me (live_in records))) =
      sym (length-append found _) ∙ ap (λ (l : List ℕ). length l) keeps in
      let first : length (in_view view me (drop k (live_in records))) ≡ suc (length rest) = ap (λ (l : List Rec). length l) (seen-first true seen) in
      omega (arith, all, first, few, length-ids (in_view view me (drop k (live_in records))), length-ids (in_view view me (live_in records)))

-- ---- what a loop over the ids that are seen keeps

-- what holds of each record holds of each that passes a test
passing : (p : Rec → Bool) (P : Rec → Type 0) (xs : List Rec) → ((k : ℕ) → k < length xs → P (get_or xs k nobody))
    → (k : ℕ) → k < length (filter p xs) → P (get_or (filter p xs) k nobody)
passing p P [] all k below = absurd (omega (arith, below))
passing p P (x ∷ xs) all k below = by_test (p x) (passing p P xs (λ i within. all (suc i) (omega (arith, within)))) k below
  where
    by_test : (b : Bool) → ((k : ℕ) → k < length (filter p xs) → P (get_or (filter p xs) k nobody))
        → (k : ℕ) → k < length (cond b (x ∷ filter p xs) (filter p xs)) → P (get_or (cond b (x ∷ filter p xs) (filter p xs)) k nobody)
    by_test true after zero below = all 0 (omega arith)
    by_test true after (suc k) below = after k (omega (arith, below))
    by_test false after k below = after k below

-- each of these records is the one of its id
abbrev pub AreOfWorld : List (Option Rec) → List Rec → Type 0
AreOfWorld records seen = (k : ℕ) → k < length seen → record_at records (get_or seen k nobody).id ≡ Some (get_or seen k nobody)

pub seen-of_world : (records : List (Option Rec)) (me : ℕ) (view : Bounds) → AreEntries records → AreOfWorld records (in_view view me (live_in records))
seen-of_world records me view entries =
    passing (is_in_view view me) (λ r. record_at records r.id ≡ Some r) (live_in records)
    (λ k below. id-has_record 0 (record_at records) records (λ i. ap (record_at records) (zero-add i)) (λ i r e. (entries i r e).own_id ∙ omega arith) k below)

-- the bytes put so far and those of the records that are left are all, and there is room for them
pub record KeepsPushing (seen : List Rec) (k : ℕ) (out all : List ℕ) : Type 0 where
  pub room : length out + 16 * length (drop k seen) ≤ REPLY_ROOM
  pub bytes : out ++ flat_map entity_bytes (drop k seen) ≡ all

module _ (records : List (Option Rec)) (seen : List Rec) (ids : List ℕ) (k d : ℕ) (are : ids ≡ ids_in seen) (below : k < length ids) where
  within : k < length seen
  within = omega (arith, ap (λ (l : List ℕ). length l) are, length-ids seen, below)

  left : drop k seen ≡ get_or seen k nobody ∷ drop (k + 1) seen
  left = drop_more seen k nobody within

  -- the record of the id at a place
  pub record-at_seen : AreOfWorld records seen → record_at records (get_or ids k d) ≡ Some (get_or seen k nobody)
  record-at_seen of =
      ap (record_at records) (ap (λ (l : List ℕ). get_or l k d) are ∙ get_or-map (λ (r : Rec). r.id) seen k nobody d within) ∙ of k within

  pub room_for_next : (out all : List ℕ) → KeepsPushing seen k out all → length out + 16 ≤ REPLY_ROOM
  room_for_next out all keeps = omega (arith, ap (λ (l : List Rec). length l) left, keeps.room)

  pub pushes_next : (r : Rec) (out more all : List ℕ) → get_or seen k nobody ≡ r → more ≡ out ++ entity_bytes r → length more ≡ length out + 16
      → KeepsPushing seen k out all → KeepsPushing seen (k + 1) more all
  pushes_next r out more all there is longer keeps = record {
    room = omega (arith, longer, ap (λ (l : List Rec). length l) left, keeps.room);
    bytes =
        ap (λ l. l ++ flat_map entity_bytes (drop (k + 1) seen)) is
        ∙ append_assoc out (entity_bytes r) (flat_map entity_bytes (drop (k + 1) seen))
        ∙ ap (λ (x : Rec). out ++ (entity_bytes x ++ flat_map entity_bytes (drop (k + 1) seen))) (sym there)
        ∙ ap (λ (l : List Rec). out ++ flat_map entity_bytes l) (sym left) ∙ keeps.bytes;
  }

-- ---- a player doesn't see itself, so it sees few

-- a player doesn't see itself
not_itself : (me : Rec) → is_seen me me ≡ false
not_itself me =
    ap (λ b. touches (abs_of me) (view_of me.origin) && not b) (eq-eqb me.id me.id refl) ∙ and-false (touches (abs_of me) (view_of me.origin))

-- a test passes no more than there are
few_pass : (p : Rec → Bool) (records : List (Option Rec)) → length (filter p (live_in records)) ≤ length records
few_pass p [] = omega arith
few_pass p (None ∷ records) = let rest = few_pass p records in omega arith
few_pass p (Some r ∷ records) = by_test (p r) (filter p (live_in records)) (few_pass p records)
  where
    by_test : (b : Bool) (l : List Rec) → length l ≤ length records → length (cond b (r ∷ l) l) ≤ suc (length records)
    by_test true l rest = omega arith
    by_test false l rest = omega arith

-- where one of them fails it, it passes fewer
fewer_pass : (p : Rec → Bool) (records : List (Option Rec)) (id : ℕ) (me : Rec) → record_at records id ≡ Some me → p me ≡ false
    → length (filter p (live_in records)) < length records
fewer_pass p [] id me at fails = cc
fewer_pass p (None ∷ records) zero me at fails = cc
fewer_pass p (Some r ∷ records) zero me at fails =
    let same : r ≡ me = cc in
    let rest = few_pass p records in
    let out : length (cond (p r) (r ∷ filter p (live_in records)) (filter p (live_in records))) ≡ length (filter p (live_in records)) =
    ap (λ b. length (cond b (r ∷ filter p (live_in records)) (filter p (live_in records)))) (ap p same ∙ fails) in
    omega arith
fewer_pass p (None ∷ records) (suc id) me at fails = let rest = fewer_pass p records id me at fails in omega arith
fewer_pass p (Some r ∷ records) (suc id) me at fails = by_test (p r) (filter p (live_in records)) (fewer_pass p records id me at fails)
  where
    by_test : (b : Bool) (l : List Rec) → length l < length records → length (cond b (r ∷ l) l) < suc (length records)
    by_test true l rest = omega arith
    by_test false l rest = omega arith

-- of the records of all ids a player sees all but its own at most
pub few_are_seen : (me : Rec) (records : List (Option Rec)) (id : ℕ) → length records ≡ IDS → record_at records id ≡ Some me
    → length (seen_by me (live_in records)) ≤ MOST_SEEN
few_are_seen me records id places at = let fewer = fewer_pass (is_seen me) records id me at (not_itself me) in omega arith
