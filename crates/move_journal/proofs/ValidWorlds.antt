-- Worlds stay valid after moves, and a list of numbered records makes one.
use Rattle.std.specs.Prelude.{◌≡◌, ℕ, zero, suc, ◌+◌, ◌<◌, ◌==◌, Bool, true, List, [], ◌∷◌, length, map, All, Contains, slice_index, slice_index_or}
use Rattle.std.specs.List.Sorted.{IsStrictlyIncreasing}
use Rattle.std.proofs.Common.{refl, sym, ap, ◌∙◌, subst, inl, inr, arith}
use Rattle.std.proofs.lemmas.Bool.{cases_Bool, eqb-true}
use Rattle.std.proofs.lemmas.List.Elements.{All-head, All-tail, All-map, All-cons, All-nil, All-contains_itself}
use Rattle.entity_recs.specs.declared.rec.Rec.{Rec}
use Rattle.entity_recs.specs.Records.{IsRecord, with_state}
use Rattle.entity_recs.specs.Commands.{Command}
use Rattle.entity_recs.specs.Worlds.{World, records_of, record_with, world_of, HasRecordsInBounds}
use Rattle.entity_recs.specs.Histories.{Action, outcome, with_new_state, with_effect, apply, world_after}
use Rattle.entity_recs.specs.declared.effect.NewState.{NewState}
use Rattle.entity_recs.specs.declared.effect.Effect.{Effect}
use Rattle.move_journal.specs.Validity.{HasRecordsThatPass, IsKept, KeepsRecords, KeepsRecordsThatPass}
use Rattle.move_journal.specs.Lists.{AreNumbered}
use Rattle.move_journal.proofs.NumberedLists.{apart_where_numbered, found_at_ids, first_given, others_given}

-- ---- after a move

-- what no state decides holds of a record with a new state
new_state_keeps : (P : Rec → Type 0) → ((r : Rec) (state : ℕ) → P r → P (with_state r state)) → (states : List NewState) (id : ℕ) (r : Rec) → P r → P (with_new_state states id r)
new_state_keeps P any [] id r holds = holds
new_state_keeps P any (s ∷ states) id r holds =
    elim (cases_Bool (s.id == id)) [
      | inl e ↦ rw e (any r s.state holds)
      | inr e ↦ rw e (new_state_keeps P any states id r holds)
    ]

-- what no state decides holds of a record after an effect, where it held before and holds of the player's record
effect_keeps : (P : Rec → Type 0) → ((r : Rec) (state : ℕ) → P r → P (with_state r state)) → (w : World) (slot : ℕ) (e : Effect) (id : ℕ)
    → (id ≡ slot → P e.me) → P (w.record_of id) → P ((with_effect w slot e).record_of id)
effect_keeps P any w slot e id me holds =
    elim (cases_Bool (id == slot)) [
      | inl q ↦ rw q (me (eqb-true id slot q))
      | inr q ↦ rw q (new_state_keeps P any e.states id (w.record_of id) holds)
    ]

-- what holds of all records of ids holds at each id
pub at_each_id : (P : Rec → Type 0) (f : ℕ → Rec) (ids : List ℕ) → All P (map f ids) → All (λ id. P (f id)) ids
at_each_id P f [] all = All-nil (λ id. P (f id))
at_each_id P f (id ∷ ids) all =
    All-cons (λ id. P (f id)) id ids (All-head P (f id) (map f ids) all) (at_each_id P f ids (All-tail P (f id) (map f ids) all))

-- a record within its bounds is so in any state
bounds_in_any_state : (r : Rec) (state : ℕ) → IsRecord r → IsRecord (with_state r state)
bounds_in_any_state r state is = record { id = is.id; origin = is.origin; shape = is.shape; vel = is.vel; flags = is.flags; ammo = is.ammo; carry = is.carry }

-- what no state decides holds of all records after a command, where it held of all before, and holds of the record that a live player has then
records_after : (P : Rec → Type 0) → ((r : Rec) (state : ℕ) → P r → P (with_state r state)) → (act : Action) (w : World) (c : Command)
    → (Contains w.ids c.slot → P (outcome act w c).me) → All P (records_of w) → All P (records_of (apply act w c))
records_after P any act w c me all =
    All-map P (apply act w c).record_of w.ids
    (λ k d within. effect_keeps P any w c.slot (outcome act w c) (slice_index_or w.ids k d)
    (λ same. me (subst (Contains w.ids) same (All-contains_itself w.ids k d within))) (at_each_id P w.record_of w.ids all k d within))

-- each live record has its own id after a command, where the player's has then
own_after : (act : Action) (w : World) (c : Command) → (Contains w.ids c.slot → (outcome act w c).me.id ≡ c.slot)
    → All (λ id. (w.record_of id).id ≡ id) w.ids → All (λ id. ((apply act w c).record_of id).id ≡ id) w.ids
own_after act w c me own k d within =
    let id = slice_index_or w.ids k d in
    effect_keeps (λ r. r.id ≡ id) (λ r state is. is) w c.slot (outcome act w c) id
    (λ same. me (subst (Contains w.ids) same (All-contains_itself w.ids k d within)) ∙ sym same) (own k d within)

-- the world after a command that keeps its player's record is valid
valid_after_one : (act : Action) (takes : Rec → Bool) (w : World) (c : Command) → ((r : Rec) (state : ℕ) → takes (with_state r state) ≡ takes r)
    → (Contains w.ids c.slot → IsKept takes c.slot (outcome act w c).me) → HasRecordsThatPass takes w → HasRecordsThatPass takes (apply act w c)
valid_after_one act takes w c any kept is = record {
  valid = record {
    rising = is.valid.rising;
    own = own_after act w c (λ live. (kept live).own) is.valid.own;
    bounds = records_after IsRecord bounds_in_any_state act w c (λ live. (kept live).bounds) is.valid.bounds;
  };
  taken = records_after (λ r. takes r ≡ true) (λ r state passes. any r state ∙ passes) act w c (λ live. (kept live).taken) is.taken;
}

-- the world after commands that keep their players' records is valid
pub valid_after : (act : Action) (takes : Rec → Bool) (ids : List ℕ) (commands : List Command) (w : World) → KeepsRecords act takes ids commands
    → w.ids ≡ ids → HasRecordsThatPass takes w → KeepsRecordsThatPass takes w (world_after act w commands)
valid_after act takes ids [] w keeps same is = record { holds = is; ids = refl }
valid_after act takes ids (c ∷ commands) w keeps same is =
    let Kept : World → Command → Type 0 = λ v d. Contains ids d.slot → IsKept takes d.slot (outcome act v d).me in
    let here : Contains ids c.slot → IsKept takes c.slot (outcome act w c).me = All-head (Kept w) c commands (keeps.players w same is) in
    let next = valid_after_one act takes w c keeps.any_state (subst (λ (live : List ℕ). Contains live c.slot → IsKept takes c.slot (outcome act w c).me) (sym same) here) is in
    let others : KeepsRecords act takes ids commands = record {
      any_state = keeps.any_state;
      players = λ v are holds. All-tail (Kept v) c commands (keeps.players v are holds);
    } in
    let rest = valid_after act takes ids commands (apply act w c) others same next in
    record { holds = rest.holds; ids = rest.ids }

-- ---- numbered records

-- the ids of numbered records are the numbers from the first place on
numbered_id : (n : ℕ) (rs : List Rec) (k : ℕ) → AreNumbered n rs → k < length (map (λ r. r.id) rs) → slice_index (map (λ r. r.id) rs) k ≡ n + k
numbered_id n [] k numbered within = absurd (omega arith)
numbered_id n (r ∷ rs) zero numbered within = let at : r.id ≡ n = numbered.0 in omega arith
numbered_id n (r ∷ rs) (suc k) numbered within =
    let following = numbered_id (n + 1) rs k numbered.1 (omega arith) in
    omega arith

-- so they rise
numbered_rise : (rs : List Rec) → AreNumbered 0 rs → IsStrictlyIncreasing (map (λ r. r.id) rs)
numbered_rise rs numbered k within =
    let here = numbered_id 0 rs k numbered (omega arith) in
    let next = numbered_id 0 rs (k + 1) numbered within in
    omega arith

-- each of the records that the function gives at their ids has the id of its place
own_given : (f : ℕ → Rec) (rs : List Rec) → map f (map (λ r. r.id) rs) ≡ rs → All (λ id. (f id).id ≡ id) (map (λ r. r.id) rs)
own_given f [] given = All-nil (λ id. (f id).id ≡ id)
own_given f (r ∷ rs) given =
    All-cons (λ id. (f id).id ≡ id) r.id (map (λ r. r.id) rs) (ap (λ (x : Rec). x.id) (first_given f r rs given)) (own_given f rs (others_given f r rs given))

-- numbered records within their bounds make a valid world
pub valid_where_numbered : (rs : List Rec) → AreNumbered 0 rs → All IsRecord rs → HasRecordsInBounds (world_of rs)
valid_where_numbered rs numbered all =
    let found = found_at_ids rs (apart_where_numbered 0 rs numbered) in
    record {
      rising = numbered_rise rs numbered;
      own = own_given (record_with rs) rs found;
      bounds = subst (All IsRecord) (sym found) all;
    }
