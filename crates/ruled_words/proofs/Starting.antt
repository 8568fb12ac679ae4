-- The table at the start meets the rule.
use Rattle.std.proofs.Common.{◌≡◌, ℕ, zero, suc, ◌%◌, ◌^◌, ◌<◌, ◌≤◌, true, false, List, [], ◌∷◌, length, refl, sym, ap, subst, inl, inr, arith, slice_index}
use Rattle.std.specs.Prelude.{◌==◌}
use mathlib.Core.Option as maybe
use mathlib.Core.Option.{some-injective, some-ne-none}
use lib.ListN.{get_elem?}
use Rattle.std.proofs.lemmas.Bool.{cases_Bool, false≢true, eqb-true, cond-true, cond-false}
use Rattle.std.proofs.lemmas.List.Elements.{All-from_recursion}
use Rattle.areanode.specs.Trees.{IsTreeDepth}
use Rattle.core_steps.specs.declared.sizes.TheConstants.{MOST_SEATS}
use Rattle.atomic_table.specs.Table.{opening}
use Rattle.core_steps.specs.Nodes.{Fixed}
use Rattle.core_steps.specs.Points.{stage_of, is_busy}
use Rattle.core_steps.specs.Reads.{Ended, View, new_view, spent}
use Rattle.core_steps.specs.Steps.{Core}
use Rattle.core_steps.specs.Stands.{IsLawful, IsStart, start_core}
use Rattle.core_steps.proofs.Reached.{machine_start_stands}
use Rattle.ruled_words.specs.Sights.{HeldWord, IsOneOf, no_tally, SightView}
use Rattle.ruled_words.specs.Rule.{WasTaken, HasWords, IsRuled, first_sight}

module _ (F : Fixed) (rooms words : List ℕ) (lawful : IsLawful F) (start : IsStart F) (depth : IsTreeDepth F.tree.depth) (some : 0 < length rooms) (few : length rooms ≤ MOST_SEATS) (small : slice_index rooms 0 < 2 ^ 32)
    (laid : HasWords words (start_core F (slice_index rooms 0))) where
  abbrev room : ℕ
  room = slice_index rooms 0

  abbrev core : Core
  core = start_core F room

  abbrev seat : View
  seat = record (new_view room) { made = 1 }

  each_view : (P : ℕ → View → Type 0) → P 0 seat → ((k : ℕ) → P k spent) → (k : ℕ) → P k (core.view k)
  each_view P first others k = elim (cases_Bool (k == 0)) [
    | inl e ↦ subst (P k) (sym (cond-true (k == 0) seat spent e)) (subst (λ (n : ℕ). P n seat) (sym (eqb-true k 0 e)) first)
    | inr e ↦ subst (P k) (sym (cond-false (k == 0) seat spent e)) (others k)
  ]

  view_at : (k : ℕ) (sight : SightView) → get_elem? (first_sight room ∷ []) k ≡ maybe.some sight → core.view k ≡ sight.view
  view_at zero sight e = ap (λ (x : SightView). x.view) (some-injective (first_sight room) sight e)
  view_at (suc k) sight e = absurd (some-ne-none sight (sym e))

  number_at : (k : ℕ) (sight : SightView) → get_elem? (first_sight room ∷ []) k ≡ maybe.some sight → sight.view.live ≡ true → sight.number ≡ k
  number_at zero sight e live = sym (ap (λ (x : SightView). x.number) (some-injective (first_sight room) sight e))
  number_at (suc k) sight e live = absurd (some-ne-none sight (sym e))

  ended_at : (k : ℕ) (sight : SightView) → get_elem? (first_sight room ∷ []) k ≡ maybe.some sight → sight.view.live ≡ false → sight.tally ≡ no_tally
  ended_at zero sight e gone = ap (λ (x : SightView). x.tally) (sym (some-injective (first_sight room) sight e))
  ended_at (suc k) sight e gone = absurd (some-ne-none sight (sym e))

  refused_at : (k : ℕ) (sight : SightView) → get_elem? (first_sight room ∷ []) k ≡ maybe.some sight → (h : HeldWord) → IsOneOf h sight.tally.refused → WasTaken (first_sight room ∷ []) h
  refused_at zero sight e h one = absurd (subst (λ (x : SightView). IsOneOf h x.tally.refused) (sym (some-injective (first_sight room) sight e)) one)
  refused_at (suc k) sight e h one = absurd (some-ne-none sight (sym e))

  pub start_is_ruled : IsRuled F rooms (opening words [] (first_sight room))
  start_is_ruled = record {
    core = core;
    history = [];
    now = F.start;
    lawful = lawful;
    start = start;
    depth = depth;
    stands = machine_start_stands F room [];
    words = laid;
    seats = record { view = view_at; number = number_at; made = refl };
    serves = each_view (λ (k : ℕ) (v : View). is_busy (stage_of v.point) ≡ true → v.cmd.slot % length rooms ≡ k) (λ busy. absurd (false≢true busy)) (λ k busy. absurd (false≢true busy));
    fits = record {
      few = few;
      made = omega (arith, some);
      room = each_view (λ (k : ℕ) (v : View). v.room < 2 ^ 32) small (λ k. omega arith);
      ended = All-from_recursion (λ (e : Ended). e.room < 2 ^ 32) [] tt;
    };
    takes = record {
      held = λ node busy. absurd (busy refl);
      ended = ended_at;
      refused = refused_at;
    };
  }
