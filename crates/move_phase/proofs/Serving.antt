-- Passes that served the moves: their journal is a merge of the moves, and its history is theirs.
use Rattle.std.specs.Prelude.{◌≡◌, ℕ, ◌<◌, ◌%◌, ◌==◌, Bool, true, List, [], ◌∷◌, length, map, filter, Contains, slice_index_or}
use Rattle.std.specs.List.{flat_map, range_with_len}
use Rattle.std.specs.List.Sorted.{IsPermutation}
use Rattle.std.proofs.Common.{refl, sym, ap, ◌∙◌, subst, mod-lt, arith}
use Rattle.std.proofs.lemmas.List.{length-map}
use Rattle.std.proofs.lemmas.Bool.{eq-eqb, eqb-true}
use Rattle.std.proofs.lemmas.List.Elements.{All-contains, All-from_recursion}
use Rattle.std.proofs.lemmas.List.Kept.{AllPairs-filter}
use Rattle.std.proofs.lemmas.List.Sorted.{IsPermutation-sym, IsPermutation-trans, IsPermutation-map, Contains-permutation, length_permutation}
use Rattle.entity_recs.specs.Commands.{Command}
use Rattle.entity_recs.specs.declared.effect.Entry.{Entry}
use Rattle.entity_recs.specs.Worlds.{World}
use Rattle.entity_recs.specs.Histories.{Action, Item, IsLegal, commands_of}
use Rattle.move_journal.specs.Merges.{IsMerge, IsRight, IsInOrder, HasNumbersApart, history_of}
use Rattle.move_journal.proofs.Founds.{IsFound, each_is_found}
use Rattle.move_journal.proofs.JournalLaws.{merges_have_whole_histories}
use Rattle.move_phase.specs.Serving.{served_by, entries_from, Rises, HaveServed}
use Rattle.move_phase.proofs.Rising.{HasRisingKeys, same_list, contains_kept, contains_before, kept_passes, in_one, in_all, IsIn}
use Rattle.move_phase.proofs.Filters.{contains_map, filter_map_same, filter_within, filter_whole}
use Rattle.move_phase.proofs.Places.{legal_items, places_are, rises_in_row, numbers_are, order_is, history_is}

-- the items of all logs
abbrev pub all_of : List (List Item) → List Item
all_of logs = flat_map (λ (log : List Item). log) logs

-- the item is one of this slot's commands
abbrev is_of : ℕ → Item → Bool
is_of slot item = item.command.slot == slot

-- what holds of an item in a log: it is in the history, its slot is one that the pass serves, and its command is a move
record IsServed (passes number : ℕ) (moves : List Command) (history : List Item) (item : Item) : Type 0 where
  pub known : Contains history item
  pub own : (item.command.slot % passes == number) ≡ true
  pub move : Contains moves item.command

module _ (act : Action) (w : World) (passes : ℕ) (moves : List Command) (logs : List (List Item)) (history : List Item)
    (some : 0 < passes) (apart : HasNumbersApart moves) (s : HaveServed act w passes moves logs history) where
  -- an item of the history is in one of the logs
  in_log : (item : Item) → Contains history item → IsIn logs item
  in_log item has = in_one logs item (Contains-permutation history (all_of logs) item s.items has)

  of_log : (i : ℕ) (d : List Item) (item : Item) → i < passes → Contains (slice_index_or logs i d) item
      → IsServed passes i moves history item
  of_log i d item within has =
      let command : Contains (served_by passes i moves) item.command =
      subst (λ (cs : List Command). Contains cs item.command) (s.served i d within)
      (contains_map (λ (x : Item). x.command) (slice_index_or logs i d) item has) in
      let inside : i < length logs = subst (λ (n : ℕ). i < n) (sym s.count) within in
      record {
        known = Contains-permutation (all_of logs) history item (IsPermutation-sym history (all_of logs) s.items)
            (in_all logs i d item inside has);
        own = kept_passes (λ c. c.slot % passes == i) moves item.command command;
        move = contains_before (λ c. c.slot % passes == i) moves item.command command;
      }

  -- an item is in the log of the pass that serves its slot
  in_own_log : (slot : ℕ) (d : List Item) (item : Item) → Contains history item → item.command.slot ≡ slot
      → Contains (slice_index_or logs (slot % passes) d) item
  in_own_log slot d item has same =
      let at = in_log item has in
      let within : at.index < passes = subst (λ (n : ℕ). at.index < n) s.count at.within in
      let served = of_log at.index d item within (at.has d) in
      let own : item.command.slot % passes ≡ at.index = eqb-true (item.command.slot % passes) at.index served.own in
      let index : at.index ≡ slot % passes = sym own ∙ ap (λ (p : ℕ). p % passes) same in
      subst (λ (i : ℕ). Contains (slice_index_or logs i d) item) index (at.has d)

  -- the places of the history rise
  history_rises : Rises history
  history_rises =
      rises_in_row (λ (item : Item). item.entry.place) 0 history (places_are 0 history (legal_items act w history s.legal))

  -- of a player the history has the items that the log of its pass has
  player_items : (slot : ℕ) (d : List Item)
      → filter (is_of slot) history ≡ filter (is_of slot) (slice_index_or logs (slot % passes) d)
  player_items slot d =
      let log = slice_index_or logs (slot % passes) d in
      let within : slot % passes < passes = mod-lt slot some in
      same_list (λ (item : Item). item.entry.place) (filter (is_of slot) history) (filter (is_of slot) log)
      (AllPairs-filter (λ (a b : Item). a.entry.place < b.entry.place) (is_of slot) history history_rises)
      (AllPairs-filter (λ (a b : Item). a.entry.place < b.entry.place) (is_of slot) log (s.rising (slot % passes) d within))
      (λ item has.
      let passed : is_of slot item ≡ true = kept_passes (is_of slot) history item has in
      contains_kept (is_of slot) log item
      (in_own_log slot d item (contains_before (is_of slot) history item has) (eqb-true item.command.slot slot passed))
      passed)
      (λ item has.
      contains_kept (is_of slot) history item
      (of_log (slot % passes) d item within (contains_before (is_of slot) log item has)).known
      (kept_passes (is_of slot) log item has))

  -- of a player the history has the moves that were sent, in their order
  player_moves : (slot : ℕ) → filter (λ c. c.slot == slot) (commands_of history) ≡ filter (λ c. c.slot == slot) moves
  player_moves slot =
      let log = slice_index_or logs (slot % passes) [] in
      let q : Command → Bool = λ c. c.slot == slot in
      filter_map_same (λ (item : Item). item.command) q history
      ∙ ap commands_of (player_items slot [])
      ∙ sym (filter_map_same (λ (item : Item). item.command) q log)
      ∙ ap (filter q) (s.served (slot % passes) [] (mod-lt slot some))
      ∙ filter_within q (λ c. c.slot % passes == slot % passes)
      (λ c same. eq-eqb (c.slot % passes) (slot % passes) (ap (λ (p : ℕ). p % passes) (eqb-true c.slot slot same))) moves

  -- the entries of the history are a merge of the moves
  pub entries_merge : IsMerge (entries_from history) moves
  entries_merge = record {
    each = λ slot.
        numbers_are slot 0 history (legal_items act w history s.legal)
        ∙ ap (λ (cs : List Command). map (λ c. c.seq) cs) (player_moves slot);
  }

  -- each command of the history is found among the moves
  each_found : (item : Item) → Contains history item → IsFound moves item.command
  each_found item has =
      let at = in_log item has in
      let within : at.index < passes = subst (λ (n : ℕ). at.index < n) s.count at.within in
      All-contains (IsFound moves) moves item.command
      (All-from_recursion (IsFound moves) moves (each_is_found moves apart)) (of_log at.index [] item within (at.has [])).move

  -- the history of its entries is the history
  pub entries_history : history_of moves (entries_from history) ≡ history
  entries_history = history_is moves 0 history (legal_items act w history s.legal) each_found

  -- the entries of the history are a right journal
  pub entries_right : IsRight act w moves (entries_from history)
  entries_right = record {
    merge = entries_merge;
    legal = subst (λ (items : List Item). IsLegal act w items) (sym entries_history) s.legal;
  }

  -- all logs together have as many items as there are moves
  pub count_of_items : length (all_of logs) ≡ length moves
  count_of_items =
      let whole = merges_have_whole_histories moves (entries_from history) apart entries_merge in
      let commands = length_permutation (commands_of (history_of moves (entries_from history))) moves whole.each_once in
      let same = ap (λ (items : List Item). length (commands_of items)) entries_history in
      let mapped = length-map history (λ (item : Item). item.command) in
      length_permutation history (all_of logs) s.items ∙ sym mapped ∙ sym same ∙ sym commands

  -- the places of all logs are the numbers from 0 up, each once
  pub items_numbered : IsPermutation (map (λ (item : Item). item.entry.place) (all_of logs)) (range_with_len 0 (length (all_of logs)))
  items_numbered =
      let places = places_are 0 history (legal_items act w history s.legal) in
      let count : length history ≡ length (all_of logs) = sym (length_permutation history (all_of logs) s.items) in
      subst (λ (ns : List ℕ). IsPermutation (map (λ (item : Item). item.entry.place) (all_of logs)) ns)
      (places ∙ ap (range_with_len 0) count)
      (IsPermutation-map (λ (item : Item). item.entry.place) (all_of logs) history
      (IsPermutation-sym history (all_of logs) s.items))

  -- a journal with the entries of all logs, by place, has the entries of the history
  pub journal_is : (journal : List Entry) → IsPermutation (entries_from (all_of logs)) journal
      → map (λ (e : Entry). e.place) journal ≡ range_with_len 0 (length journal) → journal ≡ entries_from history
  journal_is journal same places =
      let parts : IsPermutation (entries_from history) journal =
      IsPermutation-trans (entries_from history) (entries_from (all_of logs)) journal
      (IsPermutation-map (λ (item : Item). item.entry) history (all_of logs) s.items) same in
      let back = IsPermutation-sym (entries_from history) journal parts in
      same_list (λ (e : Entry). e.place) journal (entries_from history) (rises_in_row (λ (e : Entry). e.place) 0 journal places)
      entries_rise (λ e has. Contains-permutation journal (entries_from history) e back has)
      (λ e has. Contains-permutation (entries_from history) journal e parts has)
    where
      mapped : (items : List Item) → map (λ (e : Entry). e.place) (entries_from items) ≡ map (λ (item : Item). item.entry.place) items
      mapped [] = refl
      mapped (item ∷ items) = ap (λ (ns : List ℕ). item.entry.place ∷ ns) (mapped items)

      entries_rise : HasRisingKeys (λ (e : Entry). e.place) (entries_from history)
      entries_rise =
          rises_in_row (λ (e : Entry). e.place) 0 (entries_from history)
          (mapped history ∙ places_are 0 history (legal_items act w history s.legal)
          ∙ ap (range_with_len 0) (sym (length-map history (λ (item : Item). item.entry))))

  -- of one pass the history has the moves in the order of arrival
  pub one_in_order : passes ≡ 1 → IsInOrder (entries_from history) moves
  one_in_order one =
      subst (λ (cs : List Command). IsInOrder (entries_from history) cs) commands
      (order_is 0 history (legal_items act w history s.legal))
    where
      in_first : (item : Item) → Contains history item → Contains (slice_index_or logs 0 []) item
      in_first item has =
          let at = in_log item has in
          let none : at.index ≡ 0 = omega (arith, at.within, s.count, one) in
          subst (λ (i : ℕ). Contains (slice_index_or logs i []) item) none (at.has [])

      log_is : history ≡ slice_index_or logs 0 []
      log_is =
          same_list (λ (item : Item). item.entry.place) history (slice_index_or logs 0 []) history_rises (s.rising 0 [] some) in_first
          (λ item has. (of_log 0 [] item some has).known)

      all_served : (c : Command) → (c.slot % passes == 0) ≡ true
      all_served c =
          let below = mod-lt c.slot some in
          eq-eqb (c.slot % passes) 0 (omega (arith, below, one))

      commands : commands_of history ≡ moves
      commands = ap commands_of log_is ∙ s.served 0 [] some ∙ filter_whole (λ c. c.slot % passes == 0) all_served moves
