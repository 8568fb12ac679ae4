-- Records by id with new states: each record is the one it was, but for its state, and the same ids are live.
use Rattle.std.proofs.Common.{◌≡◌, ◌≢◌, ℕ, zero, suc, ◌==◌, List, [], ◌∷◌, ◌++◌, length, Option, Some, None, is_some, inl, inr, refl, sym, ap, ◌∙◌, subst}
use Rattle.std.specs.Prelude.{All}
use Rattle.std.specs.List.{find}
use Rattle.std.specs.Option.{option_map}
use Rattle.std.proofs.lemmas.Bool.{cases_Bool, eq-eqb, ne_eqb, eqb-true}
use Rattle.std.proofs.lemmas.List.{length-map}
use Rattle.std.proofs.lemmas.List.Elements.{All-head, All-tail}
use Rattle.std.proofs.lemmas.Option.{same_Some, none-some}
use Rattle.arena_geo.specs.Boxes.{overlaps, is_blocked}
use Rattle.entity_recs.specs.declared.effect.NewState.{NewState}
use Rattle.entity_recs.specs.declared.kind.Kind.TheVariants.{Player}
use Rattle.entity_recs.specs.declared.rec.Rec.{Rec}
use Rattle.entity_recs.specs.Bodies.{body_of}
use Rattle.entity_recs.specs.Kinds.{is_solid}
use Rattle.entity_recs.specs.Records.{with_state}
use Rattle.entity_recs.specs.Worlds.{World}
use Rattle.entity_recs.specs.Histories.{with_new_state}
use Rattle.arena_map.specs.declared.lift.Lift as lifts
use Rattle.arena_map.specs.Maps.{MapView, entities_of, lift_of, solids_of}
use Rattle.arena_map.specs.Validity.{IsAsItsLine, IsThing, IsStateOn, IsValidRecord, IsValidWorld, AreClear}
use Rattle.world_tree.specs.Live.{record_at, ids_of}
use Rattle.plain_server.specs.RecordsById.{records_in}
use Rattle.plain_server.specs.Moving.{with_new_states}

-- ---- one record

-- the record is another one in another state
pub record IsRestated (before after : Rec) : Type 0 where
  pub state : ℕ
  pub is : after ≡ with_state before state

-- a record with its new state, if it has one
pub restated : (states : List NewState) (id : ℕ) (r : Rec) → IsRestated r (with_new_state states id r)
restated [] id r = record { state = r.state; is = refl }
restated (s ∷ states) id r = elim (cases_Bool (s.id == id)) [
  | inl e ↦ record { state = s.state; is = rw e refl }
  | inr e ↦ let rest = restated states id r in record { state = rest.state; is = rw e rest.is }
]

-- it keeps its id, its kind and its body
pub same_id : (states : List NewState) (id : ℕ) (r : Rec) → (with_new_state states id r).id ≡ r.id
same_id states id r = ap (λ (x : Rec). x.id) (restated states id r).is

pub same_kind : (states : List NewState) (id : ℕ) (r : Rec) → (with_new_state states id r).kind ≡ r.kind
same_kind states id r = ap (λ (x : Rec). x.kind) (restated states id r).is

pub same_body : (states : List NewState) (id : ℕ) (r : Rec) → body_of (with_new_state states id r) ≡ body_of r
same_body states id r = ap body_of (restated states id r).is

-- ---- all of them

-- the record of a place
pub record_at-restated : (states : List NewState) (records : List (Option Rec)) (id : ℕ)
    → record_at (with_new_states states records) id ≡ option_map (λ (r : Rec). with_new_state states r.id r) (record_at records id)
record_at-restated states [] id = cc
record_at-restated states (x ∷ records) zero = refl
record_at-restated states (x ∷ records) (suc id) = record_at-restated states records id

-- the record that a place had before its new state
pub record WasAt (states : List NewState) (records : List (Option Rec)) (id : ℕ) (r : Rec) : Type 0 where
  pub was : Rec
  pub at : record_at records id ≡ Some was
  pub is : with_new_state states was.id was ≡ r

pub was_at : (states : List NewState) (records : List (Option Rec)) (id : ℕ) (r : Rec) → record_at (with_new_states states records) id ≡ Some r → WasAt states records id r
was_at states records id r at = by (record_at records id) refl (sym (record_at-restated states records id) ∙ at)
  where
    by : (o : Option Rec) → record_at records id ≡ o → option_map (λ (x : Rec). with_new_state states x.id x) o ≡ Some r → WasAt states records id r
    by None e h = absurd (none-some r h)
    by (Some x) e h = record { was = x; at = e; is = same_Some (with_new_state states x.id x) r h }

-- a live record with its new state
pub still_at : (states : List NewState) (records : List (Option Rec)) (id : ℕ) (r : Rec) → record_at records id ≡ Some r
    → record_at (with_new_states states records) id ≡ Some (with_new_state states r.id r)
still_at states records id r at = record_at-restated states records id ∙ ap (option_map (λ (x : Rec). with_new_state states x.id x)) at

is_some-map : (o : Option Rec) (f : Rec → Rec) → is_some (option_map f o) ≡ is_some o
is_some-map None f = refl
is_some-map (Some r) f = refl

-- the same ids are live
pub live-restated : (states : List NewState) (records : List (Option Rec)) (id : ℕ) → is_some (record_at (with_new_states states records) id) ≡ is_some (record_at records id)
live-restated states records id = ap is_some (record_at-restated states records id) ∙ is_some-map (record_at records id) (λ (r : Rec). with_new_state states r.id r)

-- there are as many places
pub count-restated : (states : List NewState) (records : List (Option Rec)) → length (with_new_states states records) ≡ length records
count-restated states records = length-map records (option_map (λ (r : Rec). with_new_state states r.id r))

pub ids-restated : (states : List NewState) (records : List (Option Rec)) → ids_of (with_new_states states records) ≡ ids_of records
ids-restated states [] = refl
ids-restated states (None ∷ records) = ids-restated states records
ids-restated states (Some r ∷ records) =
    let head = same_id states r.id r in
    let tail = ids-restated states records in
    λ i. head i ∷ tail i

-- what any world gives for the live records is as before
pub records_in-restated : (w : World) (states : List NewState) (records : List (Option Rec)) → records_in w (with_new_states states records) ≡ records_in w records
records_in-restated w states [] = refl
records_in-restated w states (None ∷ records) = ap (λ (rs : List (Option Rec)). None ∷ rs) (records_in-restated w states records)
records_in-restated w states (Some r ∷ records) =
    let head = same_id states r.id r in
    let tail = records_in-restated w states records in
    λ i. Some (w.record_of (head i)) ∷ tail i

-- ---- the world stays valid

-- the new state is one of a live record's kind
pub record IsOfLive (map : MapView) (records : List (Option Rec)) (s : NewState) : Type 0 where
  pub owner : Rec
  pub at : record_at records s.id ≡ Some owner
  pub fits : IsStateOn map owner.kind s.state

-- a new state is one of its record's kind
pub state_fits : (map : MapView) (records : List (Option Rec)) (states : List NewState) (id : ℕ) (r : Rec) → record_at records id ≡ Some r → All (IsOfLive map records) states → IsStateOn map r.kind r.state
    → IsStateOn map r.kind (with_new_state states id r).state
state_fits map records [] id r at items is = is
state_fits map records (s ∷ states) id r at items is =
    let rest = state_fits map records states id r at (All-tail (IsOfLive map records) s states items) is in
    elim (cases_Bool (s.id == id)) [
      | inl e ↦
          let own = All-head (IsOfLive map records) s states items in
          let same : own.owner ≡ r = same_Some own.owner r (sym own.at ∙ ap (record_at records) (eqb-true s.id id e) ∙ at) in
          rw e (subst (λ (x : Rec). IsStateOn map x.kind s.state) same own.fits)
      | inr e ↦ rw e rest
    ]

-- a record in another state that fits its kind is as valid
restated_is_valid : (map : MapView) (id : ℕ) (r : Rec) (state : ℕ) → IsStateOn map r.kind state → IsValidRecord map id r → IsValidRecord map id (with_state r state)
restated_is_valid map id r state fits valid = record {
  is_record = record {
    id = valid.is_record.id;
    origin = valid.is_record.origin;
    shape = valid.is_record.shape;
    vel = valid.is_record.vel;
    flags = valid.is_record.flags;
    ammo = valid.is_record.ammo;
    carry = valid.is_record.carry;
  };
  own_id = valid.own_id;
  state = fits;
  inside = valid.inside;
}

-- and as its line says, where it was
line-restated : (lift : Option lifts.Lift) (thing r : Rec) (state : ℕ) → IsAsItsLine lift thing r → IsAsItsLine lift thing (with_state r state)
line-restated None thing r state same = record { kind = same.kind; origin = same.origin; mins = same.mins; maxs = same.maxs }
line-restated (Some lift) thing r state same =
    record { kind = same.kind; x = same.x; y = same.y; low = same.low; high = same.high; mins = same.mins; maxs = same.maxs }

thing-restated : (map : MapView) (states : List NewState) (thing place : Option Rec) → IsThing map thing place → IsThing map thing (option_map (λ (r : Rec). with_new_state states r.id r) place)
thing-restated map states None None is = is
thing-restated map states None (Some r) is = is
thing-restated map states (Some thing) None is = is
thing-restated map states (Some thing) (Some r) is =
    let after = restated states r.id r in
    subst (IsAsItsLine (lift_of map thing.id) thing) (sym after.is) (line-restated (lift_of map thing.id) thing r after.state is)

-- with new states that fit a valid world is valid
pub valid-restated : (map : MapView) (states : List NewState) (records : List (Option Rec)) → All (IsOfLive map records) states → IsValidWorld map records → IsValidWorld map (with_new_states states records)
valid-restated map states records items valid = record {
  each = λ id r at.
      let before = was_at states records id r at in
      let was = before.was in
      let here = valid.each id was before.at in
      let after = restated states was.id was in
      let fits : IsStateOn map was.kind (with_new_state states was.id was).state =
      state_fits map records states was.id was (ap (record_at records) here.own_id ∙ before.at) items here.state in
      let state : (with_new_state states was.id was).state ≡ after.state = ap (λ (x : Rec). x.state) after.is in
      subst (IsValidRecord map id) (sym after.is ∙ before.is) (restated_is_valid map id was after.state (subst (IsStateOn map was.kind) state fits) here);
  things = λ id from.
      subst (IsThing map (find (λ thing. thing.id == id) (entities_of map))) (sym (record_at-restated states records id))
      (thing-restated map states (find (λ thing. thing.id == id) (entities_of map)) (record_at records id) (valid.things id from));
}

-- and bodies are as clear as they were
pub clear-restated : (map : MapView) (states : List NewState) (records : List (Option Rec)) → AreClear map records → AreClear map (with_new_states states records)
clear-restated map states records clear = record {
  of_the_map = λ id r at kind.
      let before = was_at states records id r at in
      let was = before.was in
      let own : was.kind ≡ Player = sym (same_kind states was.id was) ∙ ap (λ (x : Rec). x.kind) before.is ∙ kind in
      let body : body_of was ≡ body_of r = sym (same_body states was.id was) ∙ ap body_of before.is in
      ap (λ b. is_blocked b (solids_of map)) (sym body) ∙ clear.of_the_map id was before.at own;
  of_each_other = λ i j r s at_i at_j solid_r solid_s differ.
      let one = was_at states records i r at_i in
      let other = was_at states records j s at_j in
      let kind_one : one.was.kind ≡ r.kind = sym (same_kind states one.was.id one.was) ∙ ap (λ (x : Rec). x.kind) one.is in
      let kind_other : other.was.kind ≡ s.kind = sym (same_kind states other.was.id other.was) ∙ ap (λ (x : Rec). x.kind) other.is in
      let body_one : body_of one.was ≡ body_of r = sym (same_body states one.was.id one.was) ∙ ap body_of one.is in
      let body_other : body_of other.was ≡ body_of s = sym (same_body states other.was.id other.was) ∙ ap body_of other.is in
      ap (λ b. overlaps b (body_of s)) (sym body_one)
      ∙ ap (overlaps (body_of one.was)) (sym body_other)
      ∙ clear.of_each_other i j one.was other.was one.at other.at (ap is_solid kind_one ∙ solid_r) (ap is_solid kind_other ∙ solid_s) differ;
}

-- ---- one state after another

-- none of the new states is that of this id
abbrev pub Lacks : List NewState → ℕ → Type 0
Lacks states id = All (λ (s : NewState). s.id ≢ id) states

pub new_state-lacks : (states : List NewState) (id : ℕ) (r : Rec) → Lacks states id → with_new_state states id r ≡ r
new_state-lacks [] id r lacks = refl
new_state-lacks (s ∷ states) id r lacks =
    let head = ne_eqb s.id id (All-head (λ (t : NewState). t.id ≢ id) s states lacks) in
    rw head (new_state-lacks states id r (All-tail (λ (t : NewState). t.id ≢ id) s states lacks))

pub new_state-last : (states : List NewState) (s : NewState) (id : ℕ) (r : Rec) → Lacks states id → s.id ≡ id → with_new_state (states ++ s ∷ []) id r ≡ with_state r s.state
new_state-last [] s id r lacks same = rw (eq-eqb s.id id same) refl
new_state-last (t ∷ states) s id r lacks same =
    let head = ne_eqb t.id id (All-head (λ (u : NewState). u.id ≢ id) t states lacks) in
    rw head (new_state-last states s id r (All-tail (λ (u : NewState). u.id ≢ id) t states lacks) same)
