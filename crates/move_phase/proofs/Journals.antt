-- The journal of a table that was closed, and what it has.
use Rattle.std.proofs.Common.{◌≡◌, ℕ, ◌<◌, List, [], ◌∷◌, ◌++◌, length, map, slice_index_or, refl, sym, ap, ◌∙◌, subst, arith}
use Rattle.std.specs.List.{flat_map, range_with_len}
use Rattle.std.specs.List.Sorted.{IsPermutation, IsStrictlyIncreasing}
use Rattle.std.proofs.lemmas.List.{length-map, get_or-map, map-append}
use Rattle.std.proofs.lemmas.List.Folds.{flat_map-map}
use Rattle.std.proofs.lemmas.List.Kept.{AllPairs-from_increasing}
use Rattle.entity_recs.specs.declared.effect.Entry.{Entry}
use Rattle.entity_recs.specs.Commands.{Command}
use Rattle.entity_recs.specs.Histories.{Item}
use Rattle.move_journal.specs.Logs.{JournalView}
use Rattle.move_journal.specs.ByPlace.{places_of, entries_in, HaveNumberedPlaces, IsByPlace}
use Rattle.move_journal.specs.Merges.{IsRight, IsInOrder, HasNumbersApart, history_of}
use Rattle.world_tree.specs.Worlds.{WorldView}
use Rattle.core_steps.specs.Nodes.{Fixed}
use Rattle.move_phase.specs.Serving.{Rises, HaveServed, entries_from}
use Rattle.move_phase.specs.Running.{HaveRun}
use Rattle.move_phase.proofs.Serving.{all_of, journal_is, entries_history, entries_right, one_in_order, items_numbered, count_of_items}

-- a log whose places rise
rises_of : (log : List Item) → IsStrictlyIncreasing (map (λ (item : Item). item.entry.place) log) → Rises log
rises_of log rising = λ i j d below within.
    let place : Item → ℕ = λ item. item.entry.place in
    let long = length-map log place in
    let pairs = AllPairs-from_increasing (map place log) rising i j (place d) below (omega (arith, within, long)) in
    let at_i = get_or-map place log i d (place d) (omega (arith, below, within)) in
    let at_j = get_or-map place log j d (place d) within in
    omega (arith, pairs, at_i, at_j)

-- the entries of all logs are those of all items
all_entries : (logs : List (List Item)) → flat_map (λ (es : List Entry). es) (map entries_from logs) ≡ entries_from (all_of logs)
all_entries [] = refl
all_entries (log ∷ logs) =
    ap (λ (es : List Entry). entries_from log ++ es) (all_entries logs)
    ∙ sym (map-append (λ (item : Item). item.entry) log (all_of logs))

-- places of entries of items
places_same : (items : List Item) → places_of (entries_from items) ≡ map (λ (item : Item). item.entry.place) items
places_same [] = refl
places_same (item ∷ items) = ap (λ (ns : List ℕ). item.entry.place ∷ ns) (places_same items)

module _ (F : Fixed) (passes : ℕ) (commands : List Command) (views : List JournalView) (world : WorldView)
    (ran : HaveRun F passes commands views world) where
  -- the passes served the commands
  have_served : HaveServed F.effect_of F.start passes commands ran.logs ran.closed.history
  have_served = record {
    count = ran.count;
    served = ran.served;
    rising = λ i d within.
        let inside : i < length ran.logs = omega (arith, within, ran.count) in
        rises_of (slice_index_or ran.logs i d) (ran.closed.rising i d inside);
    items = ran.closed.items;
    legal = ran.closed.legal;
  }

  entries_are : entries_in views ≡ entries_from (all_of ran.logs)
  entries_are =
      sym (flat_map-map (λ (es : List Entry). es) (λ (view : JournalView). view.entries) views)
      ∙ ap (flat_map (λ (es : List Entry). es)) ran.views_are
      ∙ all_entries ran.logs

  module _ (some : 0 < passes) (apart : HasNumbersApart commands) where
    count_of_entries : length (entries_in views) ≡ length (all_of ran.logs)
    count_of_entries = ap length entries_are ∙ length-map (all_of ran.logs) (λ (item : Item). item.entry)

    -- the logs have as many entries as there are commands
    pub entries_fit : length (entries_in views) ≡ length commands
    entries_fit =
        count_of_entries ∙ count_of_items F.effect_of F.start passes commands ran.logs ran.closed.history some apart have_served

    -- their places are the numbers from 0 up
    pub places_numbered : HaveNumberedPlaces views
    places_numbered =
        let numbered = items_numbered F.effect_of F.start passes commands ran.logs ran.closed.history some apart have_served in
        let places : places_of (entries_in views) ≡ map (λ (item : Item). item.entry.place) (all_of ran.logs) =
        ap places_of entries_are ∙ places_same (all_of ran.logs) in
        subst (λ (n : ℕ). IsPermutation (places_of (entries_in views)) (range_with_len 0 n)) (sym count_of_entries)
        (subst (λ (ns : List ℕ). IsPermutation ns (range_with_len 0 (length (all_of ran.logs)))) (sym places) numbered)

    module _ (journal : List Entry) (by_place : IsByPlace journal views) where
      -- the journal has the entries of the history
      has_history : journal ≡ entries_from ran.closed.history
      has_history =
          journal_is F.effect_of F.start passes commands ran.logs ran.closed.history some apart have_served journal
          (subst (λ (es : List Entry). IsPermutation es journal) entries_are by_place.all) by_place.places

      -- its history is that
      pub history_is_run : history_of commands journal ≡ ran.closed.history
      history_is_run =
          ap (history_of commands) has_history
          ∙ entries_history F.effect_of F.start passes commands ran.logs ran.closed.history some apart have_served

      pub journal_right : IsRight F.effect_of F.start commands journal
      journal_right =
          subst (IsRight F.effect_of F.start commands) (sym has_history)
          (entries_right F.effect_of F.start passes commands ran.logs ran.closed.history some apart have_served)

      pub journal_in_order : passes ≡ 1 → IsInOrder journal commands
      journal_in_order one =
          subst (λ (es : List Entry). IsInOrder es commands) (sym has_history)
          (one_in_order F.effect_of F.start passes commands ran.logs ran.closed.history some apart have_served one)
