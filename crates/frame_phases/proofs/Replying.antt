-- The replies to the live slots are what is shown of the live players.
use Rattle.std.proofs.Common.{◌≡◌, ℕ, Bool, List, [], ◌∷◌, ◌++◌, length, map, filter, take, drop, Option, Some, IsSome, refl, sym, subst, ap, ap₂, ◌∙◌, inl, inr}
use Rattle.std.specs.List.{AllByRecursion}
use Rattle.std.proofs.lemmas.Bool.{cases_Bool}
use Rattle.std.proofs.lemmas.List.Elements.{All-from_recursion}
use Rattle.std.proofs.Math.Seq.{take-append_seam}
use Rattle.entity_recs.specs.declared.rec.Rec.{Rec}
use Rattle.world_tree.specs.Live.{record_at, live_in, AreEntries}
use Rattle.snapshot_write.specs.Snapshots.{snapshot}
use Rattle.reply_fan.specs.Replies.{AreLive, reply_from, reply_to, replies_to}
use Rattle.plain_server.specs.Replies.{players_in, slots_of, replies_of}
use Rattle.plain_server.proofs.Others.{each_live}
use Rattle.frame_phases.specs.ReplyLoans.{list_rewritten_with}

-- what holds of each holds of those that pass a test
those_that_pass : (P : Rec → Type 0) (test : Rec → Bool) (rs : List Rec) → AllByRecursion P rs → AllByRecursion P (filter test rs)
those_that_pass P test [] all = tt
those_that_pass P test (r ∷ rs) all =
    let rest = those_that_pass P test rs all.1 in
    elim (cases_Bool (test r)) [ inl e ↦ rw e (all.0, rest) | inr e ↦ rw e rest ]

module _ (records : List (Option Rec)) where
  -- the record is at the place of its id
  abbrev IsAtItsId : Rec → Type 0
  IsAtItsId r = record_at records r.id ≡ Some r

  players_at : AreEntries records → AllByRecursion IsAtItsId (players_in records)
  players_at entries =
      those_that_pass IsAtItsId _ (live_in records) (each_live IsAtItsId records (λ id r at. ap (record_at records) (entries id r at).own_id ∙ at))

  live_ids : (rs : List Rec) → AllByRecursion IsAtItsId rs → AllByRecursion (λ slot. IsSome (record_at records slot)) (map (λ (me : Rec). me.id) rs)
  live_ids [] at = tt
  live_ids (r ∷ rs) at = (subst IsSome (sym at.0) refl, live_ids rs at.1)

  replies_at : (frame : ℕ) (rs : List Rec) → AllByRecursion IsAtItsId rs
      → map (λ slot. reply_to frame records slot) (map (λ (me : Rec). me.id) rs) ≡ map (λ (me : Rec). snapshot frame me (live_in records)) rs
  replies_at frame [] at = refl
  replies_at frame (r ∷ rs) at = ap₂ (λ (x : List ℕ) (xs : List (List ℕ)). x ∷ xs) (ap (reply_from frame records) at.0) (replies_at frame rs at.1)

  -- the slots of the live players are live
  pub slots_live : AreEntries records → AreLive records (slots_of records)
  slots_live entries = All-from_recursion (λ slot. IsSome (record_at records slot)) (slots_of records) (live_ids (players_in records) (players_at entries))

  -- the replies to them are the snapshots of their players
  pub replies_shown : (frame : ℕ) → AreEntries records → replies_to frame records (slots_of records) ≡ replies_of frame records
  replies_shown frame entries = replies_at frame (players_in records) (players_at entries)

-- where as many items were written as there were, the list has the new ones
pub rewritten-all : (old new : List (List ℕ)) → length old ≡ length new → list_rewritten_with old new ≡ new
rewritten-all old new same = ap (λ k. take k (new ++ drop (length new) old)) same ∙ take-append_seam new (drop (length new) old)
