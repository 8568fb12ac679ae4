-- The words of a world at the start.
use Rattle.std.proofs.Common.{◌≡◌, ℕ, zero, suc, ◌+◌, ◌<◌, ◌≤◌, Bool, true, false, if◌then◌else◌, List, [], ◌∷◌, ◌++◌, map, take, length, get_or, refl, sym, ap, ◌∙◌, subst, append-nil, inl, inr, Option, Some, None, is_some, arith}
use Rattle.std.specs.Prelude.{◌==◌, ◌&&◌, ◌||◌, nat_lt}
use Rattle.std.specs.List.{range_with_len, filter_map, cons_option}
use Rattle.std.proofs.lemmas.Bool.{cases_Bool, eqb-true, eq-eqb, ne_eqb, ltb-false, cond-true, cond-false}
use Rattle.std.proofs.lemmas.List.{take_more, take_all}
use Rattle.std.proofs.lemmas.List.Elements.{filter_map-append}
use Rattle.link_lists.specs.Pool as pool
use Rattle.core_steps.proofs.Puts.{eqb_sym}
use Rattle.std.proofs.lemmas.List.FromFn.{get_or-map-range_with_len, length-map-range_with_len, map-range_with_len_more}
use Rattle.entity_recs.specs.declared.rec.Rec.{Rec}
use Rattle.entity_recs.specs.Bodies.{abs_of}
use Rattle.areanode.specs.Trees.{node_of}
use Rattle.entity_recs.specs.Worlds.{nobody, record_with, record_or_nobody}
use Rattle.world_tree.specs.Live.{record_at, live_in, ids_of}
use Rattle.world_tree.specs.Worlds.{WorldView, record_of, IsLinked}
use Rattle.world_tree.proofs.Rising.{live_records_by_id}
use Rattle.core_steps.specs.Encoding.{words_of, nth_word}
use Rattle.core_steps.specs.Nodes.{has, home}
use Rattle.std.proofs.lemmas.Option.{same_Some, none-some}
use Rattle.std.proofs.Math.Bool.{and-false}
use Rattle.core_steps.specs.declared.sizes.TheConstants.{TABLE_WORDS}
use Rattle.core_steps.specs.Stands.{is_player, start_words}
use Rattle.core_steps.proofs.StartWords.{dead_record, dead_player, words_if_live, state_if_live, nobody_words}
use Rattle.ruled_words.specs.Starts.{world_at_start, fixed_of_world, home_of, start_word_at, AreStartWords}

-- no record of these places has an id below theirs
none_with : (start id : ℕ) (records : List (Option Rec)) → ((i : ℕ) (r : Rec) → record_at records i ≡ Some r → r.id ≡ start + i) → id < start
    → record_with (live_in records) id ≡ nobody
none_with start id [] own below = refl
none_with start id (None ∷ records) own below = none_with (start + 1) id records (λ i r e. own (suc i) r e ∙ omega arith) (omega (arith, below))
none_with start id (Some r ∷ records) own below =
    let here = own 0 r refl in
    cond-false (r.id == id) r (record_with (live_in records) id) (ne_eqb r.id id (λ same. omega (arith, here, same, below)))
    ∙ none_with (start + 1) id records (λ i x e. own (suc i) x e ∙ omega arith) (omega (arith, below))

-- among the live records the one with an id is that of its place
found_with : (start : ℕ) (records : List (Option Rec)) → ((i : ℕ) (r : Rec) → record_at records i ≡ Some r → r.id ≡ start + i)
    → (i : ℕ) → record_with (live_in records) (start + i) ≡ record_or_nobody (record_at records i)
found_with start [] own i = refl
found_with start (None ∷ records) own zero = none_with (start + 1) (start + 0) records (λ i r e. own (suc i) r e ∙ omega arith) (omega arith)
found_with start (None ∷ records) own (suc i) =
    let later : start + suc i ≡ start + 1 + i = omega arith in
    ap (record_with (live_in records)) later ∙ found_with (start + 1) records (λ i r e. own (suc i) r e ∙ omega arith) i
found_with start (Some r ∷ records) own zero =
    cond-true (r.id == (start + 0)) r (record_with (live_in records) (start + 0)) (eq-eqb r.id (start + 0) (own 0 r refl))
found_with start (Some r ∷ records) own (suc i) =
    let here = own 0 r refl in
    let later : start + suc i ≡ start + 1 + i = omega arith in
    cond-false (r.id == (start + suc i)) r (record_with (live_in records) (start + suc i)) (ne_eqb r.id (start + suc i) (λ same. omega (arith, here, same)))
    ∙ ap (record_with (live_in records)) later ∙ found_with (start + 1) records (λ i x e. own (suc i) x e ∙ omega arith) i

pub start_record : (w : WorldView) → IsLinked w → (id : ℕ) → (world_at_start w).record_of id ≡ record_or_nobody (record_of w id)
start_record w linked id =
    let same : id ≡ 0 + id = omega arith in
    ap (record_with (live_in w.records)) same ∙ found_with 0 w.records (λ i r e. (linked.entries i r e).own_id ∙ omega arith) id

below_64 : (slot : ℕ) → slot < 64 → nat_lt slot 64 ≡ true
below_64 slot below = elim (cases_Bool (nat_lt slot 64)) [
  | inl e ↦ e
  | inr e ↦ let not_below = ltb-false slot 64 e in absurd (omega (arith, below, not_below))
]

equal_both : (a b : ℕ) → (a == b) ≡ (b == a)
equal_both a b = elim (cases_Bool (a == b)) [
  | inl e ↦ e ∙ sym (eq-eqb b a (sym (eqb-true a b e)))
  | inr e ↦ e ∙ sym (eqb_sym a b e)
]

-- the two words for a number in a list
pub same_has : (xs : List ℕ) (v : ℕ) → has xs v ≡ pool.has xs v
same_has [] v = refl
same_has (x ∷ xs) v = ap (λ (b : Bool). b || has xs v) (equal_both x v) ∙ ap (λ (b : Bool). (v == x) || b) (same_has xs v)

pub home_some : (w : WorldView) (slot : ℕ) (r : Rec) → IsLinked w → has (ids_of w.records) slot ≡ is_some (record_of w slot) → slot < 64 → record_of w slot ≡ Some r
    → Some (node_of w.tree (abs_of r)) ≡ home_of w slot
home_some w slot r linked live below is =
    let lives : has (ids_of w.records) slot ≡ true = live ∙ ap is_some is in
    let at : (world_at_start w).record_of slot ≡ r = start_record w linked slot ∙ ap record_or_nobody is in
    ap (λ (x : Rec). Some (node_of w.tree (abs_of x))) (sym at)
    ∙ ap (λ (b : Bool). if b then Some (home (fixed_of_world w) ((world_at_start w).record_of slot)) else None) (sym (ap (λ (b : Bool). b && has (ids_of w.records) slot) (below_64 slot below) ∙ lives))

pub home_none : (w : WorldView) (slot : ℕ) → has (ids_of w.records) slot ≡ is_some (record_of w slot) → record_of w slot ≡ None → None ≡ home_of w slot
home_none w slot live is =
    let gone : has (ids_of w.records) slot ≡ false = live ∙ ap is_some is in
    ap (λ (b : Bool). if b then Some (home (fixed_of_world w) ((world_at_start w).record_of slot)) else None)
    (sym (ap (λ (b : Bool). nat_lt slot 64 && b) gone ∙ and-false (nat_lt slot 64)))

-- a home that was found is the player's, and where none was found the player isn't live
pub is_found : (b : Bool) (x h node : ℕ) → Some h ≡ (if b then Some x else None) → (node == h) ≡ (b && (node == x))
is_found true x h node e = ap (λ (n : ℕ). node == n) (same_Some h x e)
is_found false x h node e = absurd (none-some h (sym e))

pub is_missing : (b : Bool) (x node : ℕ) → None ≡ (if b then Some x else None) → false ≡ (b && (node == x))
is_missing true x node e = absurd (none-some x e)
is_missing false x node e = refl

pub words_more : (w : WorldView) (n : ℕ) → map (start_word_at w) (range_with_len 0 (n + 1)) ≡ map (start_word_at w) (range_with_len 0 n) ++ start_word_at w n ∷ []
words_more w n = map-range_with_len_more (start_word_at w) 0 n n (omega arith)

pub all_words : (w : WorldView) (words : List ℕ) → words ≡ map (start_word_at w) (range_with_len 0 TABLE_WORDS) → AreStartWords w words
all_words w words is = subst (AreStartWords w) (sym is) (record {
  count = length-map-range_with_len (start_word_at w) 0 TABLE_WORDS;
  each = λ index below. get_or-map-range_with_len (start_word_at w) 0 TABLE_WORDS index index 0 below (omega arith);
})

-- ---- the live records, read by their ids

-- one id more
read_more : (f : ℕ → Option Rec) (ids : List ℕ) (k : ℕ) → k < length ids → filter_map f (take (k + 1) ids) ≡ filter_map f (take k ids) ++ filter_map f (get_or ids k 0 ∷ [])
read_more f ids k below = ap (filter_map f) (take_more ids k 0 below) ∙ filter_map-append f (take k ids) (get_or ids k 0 ∷ [])

pub read_some : (w : WorldView) (ids : List ℕ) (k : ℕ) (r : Rec) → ids ≡ ids_of w.records → k < length ids → Some r ≡ record_of w (get_or ids k 0)
    → filter_map (record_of w) (take (k + 1) (ids_of w.records)) ≡ filter_map (record_of w) (take k (ids_of w.records)) ++ r ∷ []
read_some w ids k r are below is =
    let P : List ℕ → Type 0 = λ l. filter_map (record_of w) (take (k + 1) l) ≡ filter_map (record_of w) (take k l) ++ r ∷ [] in
    subst P are (read_more (record_of w) ids k below ∙ ap (λ (o : Option Rec). filter_map (record_of w) (take k ids) ++ cons_option o []) (sym is))

pub read_none : (w : WorldView) (ids : List ℕ) (k : ℕ) → ids ≡ ids_of w.records → k < length ids → None ≡ record_of w (get_or ids k 0)
    → filter_map (record_of w) (take (k + 1) (ids_of w.records)) ≡ filter_map (record_of w) (take k (ids_of w.records))
read_none w ids k are below is =
    let P : List ℕ → Type 0 = λ l. filter_map (record_of w) (take (k + 1) l) ≡ filter_map (record_of w) (take k l) in
    subst P are (read_more (record_of w) ids k below ∙ ap (λ (o : Option Rec). filter_map (record_of w) (take k ids) ++ cons_option o []) (sym is) ∙ append-nil (filter_map (record_of w) (take k ids)))

pub read_all : (w : WorldView) (ids : List ℕ) (k : ℕ) → IsLinked w → ids ≡ ids_of w.records → length ids ≤ k → filter_map (record_of w) (take k (ids_of w.records)) ≡ live_in w.records
read_all w ids k linked are past =
    let whole : take k (ids_of w.records) ≡ ids_of w.records = take_all k (ids_of w.records) (subst (λ (l : List ℕ). length l ≤ k) are past) in
    ap (filter_map (record_of w)) whole ∙ sym (live_records_by_id w linked)

pub start_some : (w : WorldView) (id : ℕ) (r : Rec) → IsLinked w → record_of w id ≡ Some r → (world_at_start w).record_of id ≡ r
start_some w id r linked is = start_record w linked id ∙ ap record_or_nobody is

pub start_none : (w : WorldView) (id : ℕ) → IsLinked w → record_of w id ≡ None → (world_at_start w).record_of id ≡ nobody
start_none w id linked is = start_record w linked id ∙ ap record_or_nobody is

-- what isn't live has the words of nobody
pub body_at_start : (w : WorldView) (slot k : ℕ) → slot < 64 → nth_word (words_of ((world_at_start w).record_of slot)) k ≡ (start_words (fixed_of_world w)).body slot k
body_at_start w slot k below =
    let F = fixed_of_world w in
    words_if_live (is_player F slot) (F.start.record_of slot) k (λ dead. dead_record (live_in w.records) slot (dead_player F slot below dead))

pub state_at_start : (w : WorldView) (id : ℕ) → ((world_at_start w).record_of id).state ≡ (start_words (fixed_of_world w)).state id
state_at_start w id =
    let F = fixed_of_world w in
    state_if_live (has F.start.ids id) (F.start.record_of id) (λ dead. dead_record (live_in w.records) id dead)

pub none_word : (w : WorldView) (id k : ℕ) → IsLinked w → record_of w id ≡ None → 0 ≡ nth_word (words_of ((world_at_start w).record_of id)) k
none_word w id k linked is = sym (ap (λ (r : Rec). nth_word (words_of r) k) (start_none w id linked is) ∙ nobody_words k)
