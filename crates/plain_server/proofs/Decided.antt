-- What a right journal makes of a player's state, and what it was before the moves of a frame.
use Rattle.std.proofs.Common.{◌≡◌, ◌≢◌, ◌⊎◌, ℕ, zero, suc, ◌+◌, ◌<◌, ◌==◌, Bool, true, false, cond, List, [], ◌∷◌, ◌++◌, Option, Some, IsSome, inl, inr, refl, sym, ap, ◌∙◌, subst, arith}
use Rattle.std.specs.Prelude.{All, Contains}
use Rattle.std.specs.List.{list_any}
use Rattle.std.proofs.lemmas.Bool.{cases_Bool, cases_eq, eq-eqb, ne_eqb}
use Rattle.std.proofs.lemmas.List.Elements.{All-cons, All-contains, All-head, All-nil, All-tail, All-weaker}
use Rattle.std.proofs.lemmas.Option.{same_Some}
use Rattle.entity_recs.specs.declared.effect.Effect.{Effect}
use Rattle.entity_recs.specs.declared.effect.Entry.{Entry}
use Rattle.entity_recs.specs.declared.rec.Rec.{Rec}
use Rattle.entity_recs.specs.Commands.{Command}
use Rattle.entity_recs.specs.Histories.{Item, commands_of, entry_of, with_new_state}
use Rattle.move_journal.specs.Merges.{history_of}
use Rattle.arena_map.specs.Maps.{MapView, IsMap}
use Rattle.arena_map.specs.Validity.{IsValidWorld}
use Rattle.world_tree.specs.Live.{record_at}
use Rattle.packet_read.specs.declared.arrival.Arrival.{Arrival}
use Rattle.client_ports.specs.States.{State, IsServerState}
use Rattle.client_ports.specs.Receiving.{Receiving}
use Rattle.plain_server.specs.Moving.{HasLivePlayer, effect_among, records_after}
use Rattle.plain_server.specs.Entries.{IsReception}
use Rattle.plain_server.specs.Frames.{state_after_tick, received_in, moved_by, IsRightAfter}
use Rattle.plain_server.specs.Hits.{state_when_hit, state_after_move, state_after_entry, state_after_entries, JournalsDecideStates}
use Rattle.plain_server.proofs.States.{IsHitOrNot, IsHit, IsLeft, hit_or_not, other_then, hit_is_there, mover_state}
use Rattle.plain_server.proofs.Ending.{mover_is}
use Rattle.plain_server.proofs.Moves.{moved-none, moved-more, after_all, after_all-are}
use Rattle.plain_server.proofs.Commands.{history_has}
use Rattle.plain_server.proofs.OfFrame.{IsOfFrame, moves_are_of_frame}
use Rattle.plain_server.proofs.Runs.{entries_of, IsRun, first_live, entry_is, run_rest, journal_runs, run_entries}
use Rattle.plain_server.proofs.Frames.{received_is}

-- ---- whether a slot is among the ids

any_is : (ids : List ℕ) (slot : ℕ) → Contains ids slot → list_any (λ (id : ℕ). id == slot) ids ≡ true
any_is [] slot (k, within, is) = absurd (omega (arith, within))
any_is (x ∷ ids) slot (zero, within, is) = rw (eq-eqb x slot is) refl
any_is (x ∷ ids) slot (suc k, within, is) =
    let rest = any_is ids slot (k, omega (arith, within), is) in
    elim (cases_Bool (x == slot)) [ inl e ↦ rw e refl | inr e ↦ rw e rest ]

none_is : (ids : List ℕ) (slot : ℕ) → All (λ (id : ℕ). id ≢ slot) ids → list_any (λ (id : ℕ). id == slot) ids ≡ false
none_is [] slot none = refl
none_is (x ∷ ids) slot none =
    let rest = none_is ids slot (All-tail (λ (id : ℕ). id ≢ slot) x ids none) in
    rw (ne_eqb x slot (All-head (λ (id : ℕ). id ≢ slot) x ids none)) rest

-- ---- one command

-- there is a record, in this state
record HasState (o : Option Rec) (state : ℕ) : Type 0 where
  now : Rec
  at : o ≡ Some now
  state_is : now.state ≡ state

module _ (map : MapView) (records : List (Option Rec)) (c : Command) (valid : IsValidWorld map records) (has : HasLivePlayer records c) where
  abbrev effect : Effect
  effect = effect_among map records c

  -- the state of a slot's player after the command is that after its entry
  next_state : (place slot : ℕ) (r : Rec) → slot < 64 → record_at records slot ≡ Some r
      → HasState (record_at (records_after map records c) slot) (state_after_entry c.frame slot r.state (entry_of place c effect))
  next_state place slot r below at = by (cases_eq slot c.slot)
    where
      in_entry : (own any : Bool) → (c.slot == slot) ≡ own → list_any (λ (id : ℕ). id == slot) effect.reply.got ≡ any
          → state_after_entry c.frame slot r.state (entry_of place c effect) ≡ cond own (state_after_move c.frame r.state) (cond any (state_when_hit c.frame r.state) r.state)
      in_entry own any e f =
          let hit = state_when_hit c.frame r.state in
          ap (λ (b : Bool). cond b (state_after_move c.frame r.state) (cond (list_any (λ (id : ℕ). id == slot) effect.reply.got) hit r.state)) e
          ∙ ap (λ (b : Bool). cond own (state_after_move c.frame r.state) (cond b hit r.state)) f

      other : slot ≢ c.slot → IsHitOrNot c.frame slot effect r → HasState (record_at (records_after map records c) slot) (state_after_entry c.frame slot r.state (entry_of place c effect))
      other apart (IsHit got state hit new) = record {
        now = with_new_state effect.states slot r;
        at = other_then map records c valid has slot r apart at;
        state_is = ap (λ (x : Rec). x.state) new ∙ hit.state_is ∙ sym (in_entry false true (ne_eqb c.slot slot (λ same. apart (sym same))) (any_is effect.reply.got slot got));
      }
      other apart (IsLeft none new) = record {
        now = with_new_state effect.states slot r;
        at = other_then map records c valid has slot r apart at;
        state_is = ap (λ (x : Rec). x.state) new ∙ sym (in_entry false false (ne_eqb c.slot slot (λ same. apart (sym same))) (none_is effect.reply.got slot none));
      }

      by : (slot ≡ c.slot) ⊎ (slot ≢ c.slot) → HasState (record_at (records_after map records c) slot) (state_after_entry c.frame slot r.state (entry_of place c effect))
      by (inl same) = record {
        now = effect.me;
        at = ap (record_at (records_after map records c)) same ∙ mover_is map records c valid has;
        state_is = mover_state map records c valid has r (ap (record_at records) (sym same) ∙ at) ∙ sym (in_entry true (list_any (λ (id : ℕ). id == slot) effect.reply.got) (eq-eqb c.slot slot (sym same)) refl);
      }
      by (inr apart) = other apart (hit_or_not map records c valid has slot r below at)

  -- who is hit stood
  hit_stood : (slot : ℕ) (r : Rec) → slot < 64 → record_at records slot ≡ Some r → Contains effect.reply.got slot → r.state < 100
  hit_stood slot r below at got = by (hit_or_not map records c valid has slot r below at)
    where
      by : IsHitOrNot c.frame slot effect r → r.state < 100
      by (IsHit also state hit new) = hit.standing
      by (IsLeft none new) = absurd (All-contains (λ (id : ℕ). id ≢ slot) effect.reply.got slot none got refl)

-- ---- a history that runs

module _ (map : MapView) (frame place : ℕ) (records : List (Option Rec)) (item : Item) (items : List Item) (is : IsRun map place records (item ∷ items))
    (of : All (IsOfFrame frame) (commands_of (item ∷ items))) where
  -- the state of a slot's player after the first entry
  first_state : (slot : ℕ) (r : Rec) → slot < 64 → record_at records slot ≡ Some r
      → HasState (record_at (records_after map records item.command) slot) (state_after_entry frame slot r.state item.entry)
  first_state slot r below at =
      let c = item.command in
      let next = next_state map records c is.valid (first_live map place records item items is) place slot r below at in
      let number : c.frame ≡ frame = All-head (IsOfFrame frame) c (commands_of items) of in
      record {
        now = next.now;
        at = next.at;
        state_is = next.state_is
            ∙ ap (λ (n : ℕ). state_after_entry n slot r.state (entry_of place c (effect_among map records c))) number
            ∙ ap (state_after_entry frame slot r.state) (sym (entry_is map place records item items is));
      }

state_through : (map : MapView) (frame place : ℕ) (records : List (Option Rec)) (items : List Item) (slot : ℕ) (old new : Rec) → IsMap map → IsRun map place records items
    → All (IsOfFrame frame) (commands_of items) → slot < 64 → record_at records slot ≡ Some old → record_at (after_all map records (commands_of items)) slot ≡ Some new
    → new.state ≡ state_after_entries frame slot old.state (entries_of items)
state_through map frame place records [] slot old new is_map is of below at after = ap (λ (x : Rec). x.state) (same_Some new old (sym after ∙ at))
state_through map frame place records (item ∷ items) slot old new is_map is of below at after =
    let next = first_state map frame place records item items is of slot old below at in
    state_through map frame (place + 1) (records_after map records item.command) items slot next.now new is_map (run_rest map place records item items is_map is)
    (All-tail (IsOfFrame frame) item.command (commands_of items) of) below next.at after
    ∙ ap (λ (s : ℕ). state_after_entries frame slot s (entries_of items)) next.state_is

stood_through : (map : MapView) (frame place : ℕ) (records : List (Option Rec)) (items : List Item) (slot : ℕ) (old : Rec) (earlier later : List Entry) (e : Entry) → IsMap map
    → IsRun map place records items → All (IsOfFrame frame) (commands_of items) → slot < 64 → record_at records slot ≡ Some old
    → entries_of items ≡ earlier ++ e ∷ later → Contains e.reply.got slot → state_after_entries frame slot old.state earlier < 100
stood_through map frame place records [] slot old [] later e is_map is of below at parts got = cc
stood_through map frame place records [] slot old (x ∷ earlier) later e is_map is of below at parts got = cc
stood_through map frame place records (item ∷ items) slot old [] later e is_map is of below at parts got =
    let first : item.entry ≡ e = cc in
    let entry = sym first ∙ entry_is map place records item items is in
    hit_stood map records item.command is.valid (first_live map place records item items is) slot old below at (subst (λ (y : Entry). Contains y.reply.got slot) entry got)
stood_through map frame place records (item ∷ items) slot old (x ∷ earlier) later e is_map is of below at parts got =
    let first : item.entry ≡ x = cc in
    let rest : entries_of items ≡ earlier ++ e ∷ later = cc in
    let next = first_state map frame place records item items is of slot old below at in
    let there = stood_through map frame (place + 1) (records_after map records item.command) items slot next.now earlier later e is_map (run_rest map place records item items is_map is)
    (All-tail (IsOfFrame frame) item.command (commands_of items) of) below next.at rest got in
    subst (λ (s : ℕ). state_after_entries frame slot s earlier < 100) (next.state_is ∙ ap (state_after_entry frame slot old.state) first) there

-- each slot among the ids that the entry got is that of a live record
abbrev HitsWhoIsThere : List (Option Rec) → Entry → Type 0
HitsWhoIsThere records e = (slot : ℕ) → slot < 64 → Contains e.reply.got slot → IsSome (record_at records slot)

-- commands leave the same ids live, so who is hit later is there before
all_there : (map : MapView) (place : ℕ) (records : List (Option Rec)) (items : List Item) → IsMap map → IsRun map place records items → All (HitsWhoIsThere records) (entries_of items)
all_there map place records [] is_map is = All-nil (HitsWhoIsThere records)
all_there map place records (item ∷ items) is_map is =
    let c = item.command in
    let has = first_live map place records item items is in
    let more = moved-more map records records [] c is_map has (moved-none map records is.valid) in
    let first : HitsWhoIsThere records item.entry =
    subst (HitsWhoIsThere records) (sym (entry_is map place records item items is)) (hit_is_there map records c is.valid has) in
    All-cons (HitsWhoIsThere records) item.entry (entries_of items) first
    (All-weaker (HitsWhoIsThere (records_after map records c)) (HitsWhoIsThere records) (λ e later slot below got. sym (more.live slot) ∙ later slot below got) (entries_of items)
    (all_there map (place + 1) (records_after map records c) items is_map (run_rest map place records item items is_map is)))

-- ---- a frame

module _ (map : MapView) (frame : ℕ) (state : State) (arrivals : List Arrival) (journal : List Entry) (is_map : IsMap map) (is : IsServerState map state)
    (right : IsRightAfter map (received_in map frame state arrivals) journal) where
  abbrev r : Receiving
  r = received_in map frame state arrivals

  abbrev items : List Item
  items = history_of r.lists.moves journal

  pass : IsReception map r
  pass = received_is map frame state arrivals is_map is

  runs : IsRun map 0 r.state.records items
  runs = journal_runs map r journal pass right

  of_frame : All (IsOfFrame frame) (commands_of items)
  of_frame = history_has (IsOfFrame frame) r.lists.moves journal (moves_are_of_frame map frame (state_after_tick map frame state) arrivals)

  decided : (slot : ℕ) (old new : Rec) → slot < 64 → record_at r.state.records slot ≡ Some old → record_at (moved_by map r journal).records slot ≡ Some new
      → new.state ≡ state_after_entries frame slot old.state journal
  decided slot old new below at after =
      let records_are = after_all-are map r.state.records (commands_of items) is_map pass.state.fits.valid (history_has (HasLivePlayer r.state.records) r.lists.moves journal pass.live) in
      state_through map frame 0 r.state.records items slot old new is_map runs of_frame below at (ap (λ (records : List (Option Rec)). record_at records slot) (sym records_are) ∙ after)
      ∙ ap (state_after_entries frame slot old.state) (run_entries map r journal pass right)

  stood : (slot : ℕ) (old : Rec) → slot < 64 → record_at r.state.records slot ≡ Some old → (earlier later : List Entry) (e : Entry) → journal ≡ earlier ++ e ∷ later
      → Contains e.reply.got slot → state_after_entries frame slot old.state earlier < 100
  stood slot old below at earlier later e parts got =
      stood_through map frame 0 r.state.records items slot old earlier later e is_map runs of_frame below at (run_entries map r journal pass right ∙ parts) got

  was_there : (e : Entry) → Contains journal e → (slot : ℕ) → slot < 64 → Contains e.reply.got slot → IsSome (record_at r.state.records slot)
  was_there e has =
      All-contains (HitsWhoIsThere r.state.records) journal e
      (subst (All (HitsWhoIsThere r.state.records)) (run_entries map r journal pass right) (all_there map 0 r.state.records items is_map runs)) has

pub journals_decide : JournalsDecideStates
journals_decide = record { after = decided; standing = stood; there = was_there }
