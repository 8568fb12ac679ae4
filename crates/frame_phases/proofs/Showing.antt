-- What is shown of the live players, slot after slot.
use Rattle.std.proofs.Common.{◌≡◌, ℕ, ◌+◌, ◌<◌, ◌≤◌, ◌↔◌, Bool, true, false, IsTrue, List, [], ◌∷◌, ◌++◌, length, map, take, Option, Some, add-one, sym, ap, ◌∙◌, arith}
use Rattle.std.specs.Option.{option_to_list}
use Rattle.std.specs.Bool.{OnTrue}
use Rattle.std.proofs.lemmas.List.{map-append, length-map}
use Rattle.entity_recs.specs.declared.rec.Rec.{Rec}
use Rattle.world_tree.specs.Live.{record_at, live_in, AreEntries}
use Rattle.world_tree.proofs.LiveRecords.{live-suc}
use Rattle.plain_server.specs.Replies.{players_in}
use Rattle.plain_server.proofs.SlotPlayers.{players_are_first, few_first}

-- a live slot is put last
pub put_slot : (fits : Bool) (records : List (Option Rec)) (slot : ℕ) (me : Rec) (old new : List ℕ) → AreEntries records → record_at records slot ≡ Some me → (IsTrue fits ↔ (length old < 64))
    → length old < 64 → OnTrue fits (new ≡ old ++ slot ∷ []) → new ≡ old ++ map (λ (r : Rec). r.id) (option_to_list (record_at records slot))
put_slot true records slot me old new entries at fit short put =
    put ∙ ap (λ (id : ℕ). old ++ id ∷ []) (sym (entries slot me at).own_id) ∙ ap (λ (place : Option Rec). old ++ map (λ (r : Rec). r.id) (option_to_list place)) (sym at)
put_slot false records slot me old new entries at fit short put = let no : IsTrue false = fit.1 short in cc

module _ {X : Type 0} (f : Rec → X) (records : List (Option Rec)) where
  -- one slot more
  pub shown-next : (slot : ℕ) (was new : List X) → was ≡ map f (live_in (take slot records)) → new ≡ was ++ map f (option_to_list (record_at records slot))
      → new ≡ map f (live_in (take (slot + 1) records))
  shown-next slot was new so_far is =
      is
      ∙ ap (λ (xs : List X). xs ++ map f (option_to_list (record_at records slot))) so_far
      ∙ sym (map-append f (live_in (take slot records)) (option_to_list (record_at records slot)))
      ∙ ap (map f) (sym (live-suc records slot))
      ∙ ap (λ (k : ℕ). map f (live_in (take k records))) (sym (add-one slot))

  -- there is room for it
  pub shown_few : (slot : ℕ) (was : List X) → was ≡ map f (live_in (take slot records)) → length was ≤ slot
  shown_few slot was is = omega (arith, ap length is, length-map (live_in (take slot records)) f, few_first records slot)

  -- all slots
  pub shown-all : (slot : ℕ) (was : List X) → AreEntries records → slot ≡ 64 → was ≡ map f (live_in (take slot records)) → was ≡ map f (players_in records)
  shown-all slot was entries all is =
      is ∙ ap (λ (k : ℕ). map f (live_in (take k records))) all ∙ ap (map f) (sym (players_are_first records entries))
