-- The scores of the live players, slot after slot.
use Rattle.std.proofs.Common.{◌≡◌, ℕ, ◌+◌, List, take, Option, Some, None, add-one, refl, sym, ap, ◌∙◌, arith}
use Rattle.std.specs.Prelude.{sum_by}
use Rattle.std.specs.Option.{option_to_list}
use Rattle.std.proofs.lemmas.List.Sums.{sum_by-append}
use Rattle.entity_recs.specs.declared.rec.Rec.{Rec}
use Rattle.world_tree.specs.Live.{record_at, live_in, AreEntries}
use Rattle.world_tree.proofs.LiveRecords.{live-suc}
use Rattle.plain_server.proofs.SlotPlayers.{players_are_first}
use Rattle.frame_phases.specs.Scores.{score_at, score_in}

abbrev pub score_first : ℕ → List (Option Rec) → ℕ
score_first slots records = sum_by (λ (r : Rec). r.score) (live_in (take slots records))

one_score : (place : Option Rec) → sum_by (λ (r : Rec). r.score) (option_to_list place) ≡ score_at place
one_score None = refl
one_score (Some r) = omega arith

-- one slot more
pub score-next : (records : List (Option Rec)) (slot score more : ℕ) → score ≡ score_first slot records → more ≡ score_at (record_at records slot)
    → score + more ≡ score_first (slot + 1) records
score-next records slot score more so_far is =
    let f : Rec → ℕ = λ (r : Rec). r.score in
    let split : score_first (slot + 1) records ≡ score_first slot records + sum_by f (option_to_list (record_at records slot)) =
    ap (λ (k : ℕ). score_first k records) (add-one slot) ∙ ap (sum_by f) (live-suc records slot) ∙ sum_by-append f (live_in (take slot records)) (option_to_list (record_at records slot)) in
    omega (arith, so_far, is, split, one_score (record_at records slot))

-- all slots
pub score-all : (records : List (Option Rec)) (slot score : ℕ) → AreEntries records → slot ≡ 64 → score ≡ score_first slot records → score ≡ score_in records
score-all records slot score entries all is =
    is ∙ ap (λ (k : ℕ). score_first k records) all ∙ ap (sum_by (λ (r : Rec). r.score)) (sym (players_are_first records entries))
