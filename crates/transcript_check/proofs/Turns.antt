-- Journals from here on: moves that are left, run one after another in an order in which each player's are in the order
-- sent.
use Rattle.std.proofs.Common.{◌≡◌, ◌≢◌, ℕ, suc, ◌+◌, ◌==◌, Bool, true, false, List, [], ◌∷◌, ◌++◌, length, Option, Some, None, find, refl, sym, ap, ◌∙◌, subst, inl, inr, arith}
use Rattle.std.specs.Prelude.{All}
use Rattle.std.specs.List.{AllByRecursion}
use Rattle.std.proofs.lemmas.Bool.{cases_Bool, eq-eqb, eqb-true}
use Rattle.std.proofs.lemmas.List.{map-append}
use Rattle.std.proofs.lemmas.List.Elements.{recursion_from_All}
use Rattle.entity_recs.specs.declared.rec.Rec.{Rec}
use Rattle.entity_recs.specs.declared.effect.Entry.{Entry}
use Rattle.entity_recs.specs.Commands.{Command}
use Rattle.entity_recs.specs.Worlds.{World}
use Rattle.entity_recs.specs.Histories.{Action, Item, commands_of, outcome, apply, run, entry_of}
use Rattle.move_journal.specs.Merges.{IsMerge, reported_numbers, sent_numbers, history_of, with_command, is_entry_of, HasNumbersApart}
use Rattle.move_journal.proofs.Founds.{IsFound, each_is_found}
use Rattle.move_journal.proofs.Orders.{IsLegalFrom}
use Rattle.move_journal.proofs.Uniques.{looked_up_command, front_of_history, first_entry, legal_after}
use Rattle.arena_map.specs.Maps.{MapView, IsMap}
use Rattle.arena_map.specs.Validity.{IsValidWorld}
use Rattle.arena_outcomes.specs.Outcomes.{outcome_on}
use Rattle.plain_server.specs.RecordsById.{world_of}
use Rattle.plain_server.specs.Moving.{HasLivePlayer, effect_among, records_after, HaveMoved}
use Rattle.plain_server.proofs.Moves.{moved-none, moved-more, still-live}
use Rattle.transcript_check.specs.Moves.{IsNextOf}

-- ---- what is left

without : (P : Command → Type 0) (before : List Command) (c : Command) (after : List Command) → AllByRecursion P (before ++ c ∷ after) → P c × AllByRecursion P (before ++ after)
without P [] c after all = all
without P (d ∷ before) c after all = let rest = without P before c after all.1 in (rest.0, (all.0, rest.1))

-- what holds of all holds of the next one, and of those that are left
pub next-has : (P : Command → Type 0) (pending : List Command) (c : Command) (left : List Command) → IsNextOf pending c left → AllByRecursion P pending → P c × AllByRecursion P left
next-has P pending c left next all =
    let both = without P next.before c next.after (subst (AllByRecursion P) next.pending_is all) in
    (both.0, subst (AllByRecursion P) (sym next.left_is) both.1)

-- the numbers that a player sent, with its next one
sent-without : (slot : ℕ) (before : List Command) (c : Command) (after : List Command) → AllByRecursion (λ d. (d.slot == c.slot) ≡ false) before → (c.slot == slot) ≡ true
    → sent_numbers slot (before ++ c ∷ after) ≡ c.seq ∷ sent_numbers slot (before ++ after)
sent-without slot [] c after none own = rw own refl
sent-without slot (d ∷ before) c after none own =
    let same : c.slot ≡ slot = eqb-true c.slot slot own in
    let other : (d.slot == slot) ≡ false = subst (λ n. (d.slot == n) ≡ false) same none.0 in
    rw other (sent-without slot before c after none.1 own)

sent-others : (slot : ℕ) (before : List Command) (c : Command) (after : List Command) → (c.slot == slot) ≡ false → sent_numbers slot (before ++ c ∷ after) ≡ sent_numbers slot (before ++ after)
sent-others slot [] c after other = rw other refl
sent-others slot (d ∷ before) c after other =
    let rest = sent-others slot before c after other in
    elim (cases_Bool (d.slot == slot)) [ inl e ↦ rw e (ap (λ ns. d.seq ∷ ns) rest) | inr e ↦ rw e rest ]

pub sent-next : (slot : ℕ) (pending : List Command) (c : Command) (left : List Command) → IsNextOf pending c left → (c.slot == slot) ≡ true → sent_numbers slot pending ≡ c.seq ∷ sent_numbers slot left
sent-next slot pending c left next own =
    ap (sent_numbers slot) next.pending_is ∙ sent-without slot next.before c next.after next.none own ∙ ap (λ cs. c.seq ∷ sent_numbers slot cs) (sym next.left_is)

pub sent-other : (slot : ℕ) (pending : List Command) (c : Command) (left : List Command) → IsNextOf pending c left → (c.slot == slot) ≡ false → sent_numbers slot pending ≡ sent_numbers slot left
sent-other slot pending c left next other =
    ap (sent_numbers slot) next.pending_is ∙ sent-others slot next.before c next.after other ∙ ap (sent_numbers slot) (sym next.left_is)

-- the first number that a player sent is that of its next command
pub record HasNext (pending : List Command) (slot seq : ℕ) : Type 0 where
  pub c : Command
  pub left : List Command
  pub next : IsNextOf pending c left
  pub slot_is : c.slot ≡ slot
  pub seq_is : c.seq ≡ seq

first-number : (n m : ℕ) (ns ms : List ℕ) → n ∷ ns ≡ m ∷ ms → n ≡ m
first-number n m ns ms same = cc

next-cons : (d : Command) (pending : List Command) (slot seq : ℕ) → (d.slot == slot) ≡ false → HasNext pending slot seq → HasNext (d ∷ pending) slot seq
next-cons d pending slot seq other has = record {
  c = has.c;
  left = d ∷ has.left;
  next = record {
    before = d ∷ has.next.before;
    after = has.next.after;
    pending_is = ap (λ cs. d ∷ cs) has.next.pending_is;
    none = (subst (λ n. (d.slot == n) ≡ false) (sym has.slot_is) other, has.next.none);
    left_is = ap (λ cs. d ∷ cs) has.next.left_is;
  };
  slot_is = has.slot_is;
  seq_is = has.seq_is;
}

pub has-next : (pending : List Command) (slot seq : ℕ) (more : List ℕ) → sent_numbers slot pending ≡ seq ∷ more → HasNext pending slot seq
has-next [] slot seq more sent = cc
has-next (d ∷ pending) slot seq more sent = by (d.slot == slot) refl (has-next pending slot seq more)
  where
    by : (own : Bool) → (d.slot == slot) ≡ own → (sent_numbers slot pending ≡ seq ∷ more → HasNext pending slot seq) → HasNext (d ∷ pending) slot seq
    by true e later =
        let whole : d.seq ∷ sent_numbers slot pending ≡ seq ∷ more = rw e at sent in
        record {
          c = d;
          left = pending;
          next = record { before = []; after = pending; pending_is = refl; none = tt; left_is = refl };
          slot_is = eqb-true d.slot slot e;
          seq_is = first-number d.seq seq (sent_numbers slot pending) more whole;
        }
    by false e later =
        let whole : sent_numbers slot pending ≡ seq ∷ more = rw e at sent in
        next-cons d pending slot seq e (later whole)

-- ---- a journal from here on

-- the moves that are left may be run among these records
pub record AreReady (map_view : MapView) (moves : List Command) (records : List (Option Rec)) (pending : List Command) : Type 0 where
  pub valid : IsValidWorld map_view records
  pub live : AllByRecursion (HasLivePlayer records) pending
  pub found : AllByRecursion (IsFound moves) pending

-- a right journal of the moves that are left, the first entry of which has this place
pub record IsRightFrom (map_view : MapView) (moves : List Command) (place : ℕ) (records : List (Option Rec)) (pending : List Command) (journal : List Entry) : Type 0 where
  pub merge : IsMerge journal pending
  pub legal : IsLegalFrom (outcome_on map_view) place (world_of records) (history_of moves journal)

no-parts : (before : List Item) (item : Item) (following : List Item) (A : Type 0) → ◌≡◌ {A = List Item} [] (before ++ item ∷ following) → A
no-parts [] item following A same = cc
no-parts (b ∷ before) item following A same = cc

-- no move is left
pub right-none : (map_view : MapView) (moves : List Command) (place : ℕ) (records : List (Option Rec)) → IsRightFrom map_view moves place records [] []
right-none map_view moves place records = record { merge = record { each = λ slot. refl }; legal = record { each = λ before item following parts. no-parts before item following _ parts } }

own-first-number : (e : Entry) (rest : List Entry) → reported_numbers e.slot (e ∷ rest) ≡ e.seq ∷ reported_numbers e.slot rest
own-first-number e rest = let own : (e.slot == e.slot) ≡ true = eq-eqb e.slot e.slot refl in rw own refl

-- where none is left, there is no entry
pub right-empty : (map_view : MapView) (moves : List Command) (place : ℕ) (records : List (Option Rec)) (journal : List Entry) → IsRightFrom map_view moves place records [] journal → journal ≡ []
right-empty map_view moves place records [] right = refl
right-empty map_view moves place records (e ∷ rest) right = let never : e.seq ∷ reported_numbers e.slot rest ≡ [] = sym (own-first-number e rest) ∙ right.merge.each e.slot in cc

module _ (map_view : MapView) (is_map : IsMap map_view) (moves : List Command) where
  abbrev act : Action
  act = outcome_on map_view

  -- the records after a live player's command make the world after it
  next-world : (records : List (Option Rec)) (c : Command) → IsValidWorld map_view records → HasLivePlayer records c → HaveMoved map_view records (records_after map_view records c) (c ∷ [])
  next-world records c valid live = moved-more map_view records records [] c is_map live (moved-none map_view records valid)

  pub ready-next : (records : List (Option Rec)) (pending : List Command) (c : Command) (left : List Command) → AreReady map_view moves records pending → IsNextOf pending c left
      → AreReady map_view moves (records_after map_view records c) left
  ready-next records pending c left ready next =
      let lives = next-has (HasLivePlayer records) pending c left next ready.live in
      let more = next-world records c ready.valid lives.0 in
      record {
        valid = more.valid;
        live = still-all records (records_after map_view records c) (c ∷ []) left more lives.1;
        found = (next-has (IsFound moves) pending c left next ready.found).1;
      }
    where
      still-all : (old new : List (Option Rec)) (cs : List Command) (ds : List Command) → HaveMoved map_view old new cs → AllByRecursion (HasLivePlayer old) ds → AllByRecursion (HasLivePlayer new) ds
      still-all old new cs [] is all = tt
      still-all old new cs (d ∷ ds) is all = (still-live map_view old new cs d is all.0, still-all old new cs ds is all.1)

  -- ---- one entry more

  parts-rest : (c : Command) (e : Entry) (items : List Item) (b : Item) (before : List Item) (item : Item) (following : List Item)
      → record { command = c; entry = e } ∷ items ≡ b ∷ (before ++ item ∷ following) → items ≡ before ++ item ∷ following
  parts-rest c e items b before item following same = cc

  legal-cons : (place : ℕ) (w : World) (c : Command) (items : List Item) → IsLegalFrom act (place + 1) (apply act w c) items
      → IsLegalFrom act place w (record { command = c; entry = entry_of place c (outcome act w c) } ∷ items)
  legal-cons place w c items legal = record { each = each }
    where
      each : (before : List Item) (item : Item) (following : List Item) → record { command = c; entry = entry_of place c (outcome act w c) } ∷ items ≡ before ++ item ∷ following
          → item.entry ≡ entry_of (place + length before) item.command (outcome act (run act w before) item.command)
      each [] item following parts =
          let first : ◌≡◌ {A = Item} (record { command = c; entry = entry_of place c (outcome act w c) }) item = cc in
          subst (λ (i : Item). i.entry ≡ entry_of (place + 0) i.command (outcome act w i.command)) first
          (ap (λ (p : ℕ). entry_of p c (outcome act w c)) (let none : place ≡ place + 0 = omega arith in none))
      each (b ∷ before) item following parts =
          let first : ◌≡◌ {A = Item} (record { command = c; entry = entry_of place c (outcome act w c) }) b = cc in
          let later = legal.each before item following (parts-rest c (entry_of place c (outcome act w c)) items b before item following parts) in
          let places : place + 1 + length before ≡ place + suc (length before) = omega arith in
          let moved = subst (λ (p : ℕ). item.entry ≡ entry_of p item.command (outcome act (run act (apply act w c) before) item.command)) places later in
          subst (λ (i : Item). item.entry ≡ entry_of (place + suc (length before)) item.command (outcome act (run act (apply act w i.command) before) item.command)) first moved

  -- the entry of a command among records
  abbrev pub entry_there : ℕ → List (Option Rec) → Command → Entry
  entry_there place records c = entry_of place c (effect_among map_view records c)

  found-entry : (place : ℕ) (records : List (Option Rec)) (c : Command) (e : Entry) → e.slot ≡ c.slot → e.seq ≡ c.seq → IsFound moves c → find (is_entry_of e) moves ≡ Some c
  found-entry place records c e slot seq found = looked_up_command moves e c found (record { slot = slot; seq = seq })

  -- an entry with its move goes before a right journal of those that are left
  pub right-cons : (place : ℕ) (records : List (Option Rec)) (pending : List Command) (c : Command) (left : List Command) (journal : List Entry) → AreReady map_view moves records pending → IsNextOf pending c left
      → IsRightFrom map_view moves (place + 1) (records_after map_view records c) left journal → IsRightFrom map_view moves place records pending (entry_there place records c ∷ journal)
  right-cons place records pending c left journal ready next right =
      let e = entry_there place records c in
      let lives = next-has (HasLivePlayer records) pending c left next ready.live in
      let found = (next-has (IsFound moves) pending c left next ready.found).0 in
      let more = next-world records c ready.valid lives.0 in
      let legal : IsLegalFrom act (place + 1) (apply act (world_of records) c) (history_of moves journal) = subst (λ (w : World). IsLegalFrom act (place + 1) w (history_of moves journal)) more.world right.legal in
      record {
        merge = record { each = λ slot. by_slot slot (c.slot == slot) refl };
        legal = subst (IsLegalFrom act place (world_of records)) (sym (front_of_history moves e journal c (found-entry place records c e refl refl found)))
            (legal-cons place (world_of records) c (history_of moves journal) legal);
      }
    where
      by_slot : (slot : ℕ) (own : Bool) → (c.slot == slot) ≡ own → reported_numbers slot (entry_there place records c ∷ journal) ≡ sent_numbers slot pending
      by_slot slot true own = rw own (ap (λ ns. c.seq ∷ ns) (right.merge.each slot) ∙ sym (sent-next slot pending c left next own))
      by_slot slot false own = rw own (right.merge.each slot ∙ sym (sent-other slot pending c left next own))

  -- a right journal of the moves that are left, the first entry of which has this place
  pub record HasJournalFrom (place : ℕ) (records : List (Option Rec)) (pending : List Command) : Type 0 where
    pub journal : List Entry
    pub right : IsRightFrom map_view moves place records pending journal

  -- there is one: that of the order in which they are left
  pub some-journal : (place : ℕ) (records : List (Option Rec)) (pending : List Command) → AreReady map_view moves records pending → HasJournalFrom place records pending
  some-journal place records [] ready = record { journal = []; right = right-none map_view moves place records }
  some-journal place records (c ∷ pending) ready =
      let next : IsNextOf (c ∷ pending) c pending = record { before = []; after = pending; pending_is = refl; none = tt; left_is = refl } in
      let rest = some-journal (place + 1) (records_after map_view records c) pending (ready-next records (c ∷ pending) c pending ready next) in
      record { journal = entry_there place records c ∷ rest.journal; right = right-cons place records (c ∷ pending) c pending rest.journal ready next rest.right }

  -- the first entry of a right journal, and the rest of it
  pub record BeginsWithMove (place : ℕ) (records : List (Option Rec)) (pending : List Command) (journal : List Entry) : Type 0 where
    pub c : Command
    pub left : List Command
    pub next : IsNextOf pending c left
    pub rest : List Entry
    pub journal_is : journal ≡ entry_there place records c ∷ rest
    pub right : IsRightFrom map_view moves (place + 1) (records_after map_view records c) left rest

  first-sent : (d : Command) (pending : List Command) → sent_numbers d.slot (d ∷ pending) ≡ d.seq ∷ sent_numbers d.slot pending
  first-sent d pending = let own : (d.slot == d.slot) ≡ true = eq-eqb d.slot d.slot refl in rw own refl

  some-left : (pending : List Command) → pending ≢ [] → IsMerge [] pending → ⊥
  some-left [] some merge = some refl
  some-left (d ∷ pending) some merge = let never : [] ≡ d.seq ∷ sent_numbers d.slot pending = merge.each d.slot ∙ first-sent d pending in cc

  rest-numbers : (n m : ℕ) (ns ms : List ℕ) → n ∷ ns ≡ m ∷ ms → ns ≡ ms
  rest-numbers n m ns ms same = cc

  by_next : (place : ℕ) (records : List (Option Rec)) (pending : List Command) (e : Entry) (rest : List Entry) → AreReady map_view moves records pending
      → IsRightFrom map_view moves place records pending (e ∷ rest) → HasNext pending e.slot e.seq → BeginsWithMove place records pending (e ∷ rest)
  by_next place records pending e rest ready right has =
      let c = has.c in
      let left = has.left in
      let lives = next-has (HasLivePlayer records) pending c left has.next ready.live in
      let found = (next-has (IsFound moves) pending c left has.next ready.found).0 in
      let more = next-world records c ready.valid lives.0 in
      let looked_up = found-entry place records c e (sym has.slot_is) (sym has.seq_is) found in
      let whole = subst (IsLegalFrom act place (world_of records)) (front_of_history moves e rest c looked_up) right.legal in
      let first = first_entry act place (world_of records) c e (history_of moves rest) whole in
      let later = legal_after act place (world_of records) c e (history_of moves rest) whole in
      record {
        c = c;
        left = left;
        next = has.next;
        rest = rest;
        journal_is = ap (λ x. x ∷ rest) first;
        right = record {
          merge = record { each = λ slot. by_slot slot (c.slot == slot) refl };
          legal = subst (λ (w : World). IsLegalFrom act (place + 1) w (history_of moves rest)) (sym more.world) later;
        };
      }
    where
      entry-own : (slot : ℕ) → (has.c.slot == slot) ≡ true → reported_numbers slot (e ∷ rest) ≡ e.seq ∷ reported_numbers slot rest
      entry-own slot own = let here : (e.slot == slot) ≡ true = subst (λ n. (n == slot) ≡ true) has.slot_is own in rw here refl

      entry-other : (slot : ℕ) → (has.c.slot == slot) ≡ false → reported_numbers slot (e ∷ rest) ≡ reported_numbers slot rest
      entry-other slot other = let here : (e.slot == slot) ≡ false = subst (λ n. (n == slot) ≡ false) has.slot_is other in rw here refl

      by_slot : (slot : ℕ) (own : Bool) → (has.c.slot == slot) ≡ own → reported_numbers slot rest ≡ sent_numbers slot has.left
      by_slot slot true own =
          rest-numbers e.seq has.c.seq (reported_numbers slot rest) (sent_numbers slot has.left)
          (sym (entry-own slot own) ∙ right.merge.each slot ∙ sent-next slot pending has.c has.left has.next own)
      by_slot slot false own = sym (entry-other slot own) ∙ right.merge.each slot ∙ sent-other slot pending has.c has.left has.next own

  own-first : (e : Entry) (rest : List Entry) → reported_numbers e.slot (e ∷ rest) ≡ e.seq ∷ reported_numbers e.slot rest
  own-first e rest = let own : (e.slot == e.slot) ≡ true = eq-eqb e.slot e.slot refl in rw own refl

  pub begins-with_move : (place : ℕ) (records : List (Option Rec)) (pending : List Command) (journal : List Entry) → pending ≢ [] → AreReady map_view moves records pending
      → IsRightFrom map_view moves place records pending journal → BeginsWithMove place records pending journal
  begins-with_move place records pending [] some ready right = absurd (some-left pending some right.merge)
  begins-with_move place records pending (e ∷ rest) some ready right =
      let sent : sent_numbers e.slot pending ≡ e.seq ∷ reported_numbers e.slot rest = sym (right.merge.each e.slot) ∙ own-first e rest in
      by_next place records pending e rest ready right (has-next pending e.slot e.seq (reported_numbers e.slot rest) sent)

  -- ---- the records after a front of a journal

  history-append : (front more : List Entry) → history_of moves (front ++ more) ≡ history_of moves front ++ history_of moves more
  history-append [] more = refl
  history-append (e ∷ front) more = by (find (is_entry_of e) moves) (history-append front more)
    where
      by : (o : Option Command) → history_of moves (front ++ more) ≡ history_of moves front ++ history_of moves more
          → with_command o e (history_of moves (front ++ more)) ≡ with_command o e (history_of moves front) ++ history_of moves more
      by None rest = rest
      by (Some c) rest = ap (λ items. record { command = c; entry = e } ∷ items) rest

  pub moved-next : (start records : List (Option Rec)) (front : List Entry) (place : ℕ) (pending : List Command) (c : Command) (left : List Command) → AreReady map_view moves records pending
      → IsNextOf pending c left → HaveMoved map_view start records (commands_of (history_of moves front))
      → HaveMoved map_view start (records_after map_view records c) (commands_of (history_of moves (front ++ entry_there place records c ∷ [])))
  moved-next start records front place pending c left ready next moved =
      let e = entry_there place records c in
      let lives = next-has (HasLivePlayer records) pending c left next ready.live in
      let found = (next-has (IsFound moves) pending c left next ready.found).0 in
      let one : history_of moves (e ∷ []) ≡ record { command = c; entry = e } ∷ [] = front_of_history moves e [] c (found-entry place records c e refl refl found) in
      let commands : commands_of (history_of moves (front ++ e ∷ [])) ≡ commands_of (history_of moves front) ++ c ∷ [] =
      ap commands_of (history-append front (e ∷ []) ∙ ap (λ items. history_of moves front ++ items) one)
      ∙ map-append (λ (item : Item). item.command) (history_of moves front) (record { command = c; entry = e } ∷ []) in
      subst (HaveMoved map_view start (records_after map_view records c)) (sym commands)
      (moved-more map_view start records (commands_of (history_of moves front)) c is_map lives.0 moved)

-- the moves of a reception are ready
pub ready-first : (map_view : MapView) (records : List (Option Rec)) (moves : List Command) → IsValidWorld map_view records → All (HasLivePlayer records) moves → HasNumbersApart moves
    → AreReady map_view moves records moves
ready-first map_view records moves valid live apart = record { valid = valid; live = recursion_from_All (HasLivePlayer records) moves live; found = each_is_found moves apart }
