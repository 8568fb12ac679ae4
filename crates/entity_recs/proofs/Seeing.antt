-- What a move sees and what it changes.
use Rattle.std.specs.Prelude.{◌≡◌, ◌≢◌, ℕ, ◌==◌, Bool, true, false, not, List, [], ◌∷◌, ◌++◌, map, filter, All, Contains}
use Rattle.std.specs.List.Sorted.{IsStrictlyIncreasing}
use Rattle.std.proofs.Common.{refl, sym, ap, ◌∙◌, subst}
use Rattle.std.proofs.lemmas.Bool.{true≢false, eq-eqb, ne_eqb, cond-true, cond-false}
use Rattle.std.proofs.lemmas.List.Elements.{All-head, All-tail, All-filter}
use Rattle.std.proofs.lemmas.List.Kept.{IsStrictlyIncreasing-filter}
use Rattle.entity_recs.specs.declared.effect.NewState.{NewState}
use Rattle.entity_recs.specs.declared.rec.Rec.{Rec}
use Rattle.entity_recs.specs.Records.{with_state}
use Rattle.entity_recs.specs.Worlds.{World, others_of}
use Rattle.entity_recs.specs.Histories.{outcome, with_new_state}
use Rattle.entity_recs.specs.Moves.{IsOfAnother, AreOthers, HasOwnIds, OthersAreKnown}
use Rattle.entity_recs.specs.Moves.{DiffersInState, ListsNoneOf, EffectsChangeWhatIsListed, MovesSeeAllOthers}
use Rattle.entity_recs.proofs.Elements.{contains_kept, contains_before, kept_passes, contains_map, comes_from, rising_keys, same_list}

-- ---- what is seen

-- the test for another id
is_other : ℕ → ℕ → Bool
is_other id other = not (other == id)

test-not : (b : Bool) → not b ≡ true → b ≡ false
test-not true is = cc
test-not false is = refl

apart_of : (id other : ℕ) → not (other == id) ≡ true → other ≢ id
apart_of id other is same = true≢false (sym (eq-eqb other id same) ∙ test-not (other == id) is)

of_apart : (id other : ℕ) → other ≢ id → not (other == id) ≡ true
of_apart id other apart = ap not (ne_eqb other id apart)

module _ (w : World) (id : ℕ) where
  -- the other live ids
  abbrev other_ids : List ℕ
  other_ids = filter (λ other. not (other == id)) w.ids

  seen_is_other : (r : Rec) → Contains (others_of w id) r → IsOfAnother w id r
  seen_is_other r has =
      let from = comes_from w.record_of other_ids r has in
      record {
        other = from.from;
        live = contains_before (λ other. not (other == id)) w.ids from.from from.has;
        apart = apart_of id from.from (kept_passes (λ other. not (other == id)) w.ids from.from from.has);
        its = from.gives;
      }

  other_is_seen : (r : Rec) → IsOfAnother w id r → Contains (others_of w id) r
  other_is_seen r is =
      subst (Contains (others_of w id)) is.its (contains_map w.record_of other_ids is.other
      (contains_kept (λ other. not (other == id)) w.ids is.other is.live (of_apart id is.other is.apart)))

-- the ids of records that have their own
own_ids : (f : ℕ → Rec) (ns : List ℕ) → All (λ n. (f n).id ≡ n) ns → map (λ (r : Rec). r.id) (map f ns) ≡ ns
own_ids f [] own = refl
own_ids f (n ∷ ns) own =
    let head = All-head (λ (m : ℕ). (f m).id ≡ m) n ns own in
    let tail = own_ids f ns (All-tail (λ (m : ℕ). (f m).id ≡ m) n ns own) in
    cc

others_in_order : (w : World) (id : ℕ) → HasOwnIds w → AreOthers w id (others_of w id)
others_in_order w id has = record {
  each = λ r. (seen_is_other w id r, other_is_seen w id r);
  rising = subst IsStrictlyIncreasing (sym (own_ids w.record_of (other_ids w id) (All-filter (λ other. not (other == id)) (λ n. (w.record_of n).id ≡ n) w.ids has.own)))
      (IsStrictlyIncreasing-filter (λ other. not (other == id)) w.ids has.rising);
}

pub others_are_known : OthersAreKnown
others_are_known = record {
  each = λ w id r. (seen_is_other w id r, other_is_seen w id r);
  in_order = others_in_order;
}

-- ---- what is changed

state_alone : (r : Rec) (state : ℕ) → DiffersInState r state (with_state r state)
state_alone r state = record {
  id = refl;
  kind = refl;
  origin = refl;
  mins = refl;
  maxs = refl;
  vel = refl;
  flags = refl;
  ammo = refl;
  carry = refl;
  score = refl;
  seq = refl;
  state_is = refl;
}

-- a record that isn't listed
unlisted : (states : List NewState) (id : ℕ) (r : Rec) → ListsNoneOf id states → with_new_state states id r ≡ r
unlisted [] id r none = refl
unlisted (s ∷ states) id r none =
    let here = All-head (λ (x : NewState). x.id ≢ id) s states none in
    cond-false (s.id == id) (with_state r s.state) (with_new_state states id r) (ne_eqb s.id id here)
    ∙ unlisted states id r (All-tail (λ (x : NewState). x.id ≢ id) s states none)

-- a record that is listed first here
listed_first : (before : List NewState) (s : NewState) (after : List NewState) (r : Rec) → ListsNoneOf s.id before
    → with_new_state (before ++ s ∷ after) s.id r ≡ with_state r s.state
listed_first [] s after r none = cond-true (s.id == s.id) (with_state r s.state) (with_new_state after s.id r) (eq-eqb s.id s.id refl)
listed_first (x ∷ before) s after r none =
    let here = All-head (λ (y : NewState). y.id ≢ s.id) x before none in
    cond-false (x.id == s.id) (with_state r x.state) (with_new_state (before ++ s ∷ after) s.id r) (ne_eqb x.id s.id here)
    ∙ listed_first before s after r (All-tail (λ (y : NewState). y.id ≢ s.id) x before none)

pub effects_change_what_is_listed : EffectsChangeWhatIsListed
effects_change_what_is_listed w slot e = record {
  ids = refl;
  me = cond-true (slot == slot) e.me (with_new_state e.states slot (w.record_of slot)) (eq-eqb slot slot refl);
  listed = λ before s after states_are none apart.
      subst (DiffersInState (w.record_of s.id) s.state)
      (sym (cond-false (s.id == slot) e.me (with_new_state e.states s.id (w.record_of s.id)) (ne_eqb s.id slot apart)
      ∙ ap (λ (states : List NewState). with_new_state states s.id (w.record_of s.id)) states_are
      ∙ listed_first before s after (w.record_of s.id) none))
      (state_alone (w.record_of s.id) s.state);
  others = λ id apart none.
      cond-false (id == slot) e.me (with_new_state e.states id (w.record_of id)) (ne_eqb id slot apart)
      ∙ unlisted e.states id (w.record_of id) none;
}

-- the others of a world are these, if they are its others in rising id
others_are : (w : World) (id : ℕ) (others : List Rec) → HasOwnIds w → AreOthers w id others → others_of w id ≡ others
others_are w id others has are =
    let mine = others_in_order w id has in
    same_list (λ (r : Rec). r.id) (others_of w id) others (rising_keys (λ (r : Rec). r.id) (others_of w id) mine.rising)
    (rising_keys (λ (r : Rec). r.id) others are.rising)
    (λ r seen. (are.each r).1 ((mine.each r).0 seen))
    (λ r there. (mine.each r).1 ((are.each r).0 there))

pub moves_see_all_others : MovesSeeAllOthers
moves_see_all_others = record {
  seen = λ act w c others has are. ap (λ (rs : List Rec). act (w.record_of c.slot) rs c) (others_are w c.slot others has are);
  left = λ act w c. effects_change_what_is_listed w c.slot (outcome act w c);
}
