-- The count of commits is small: each log fits its room, and there are at most sixteen.
use Rattle.std.proofs.Common.{◌≡◌, ap, ℕ, ◌^◌, ◌<◌, ◌≤◌, List, [], ◌∷◌, length, inl, inr, arith, slice_index}
use Rattle.std.specs.Prelude.{◌==◌}
use Rattle.std.specs.List.{AllByRecursion}
use Rattle.std.proofs.lemmas.Bool.{cases_Bool}
use Rattle.std.proofs.lemmas.List.Elements.{recursion_from_All}
use Rattle.std.proofs.lemmas.List.Sorted.{length_permutation}
use mathlib.Core.Option as maybe
use lib.ListN.{get_elem?}
use Rattle.atomic_table.specs.Table.{State}
use Rattle.core_steps.specs.Nodes.{Fixed}
use Rattle.core_steps.specs.Reads.{Ended, View}
use Rattle.core_steps.specs.Stands.{IsLogWithin, ended_log, log_of, items_of}
use Rattle.core_steps.proofs.Appending.{below_small}
use Rattle.ruled_words.specs.Sights.{SightView}
use Rattle.ruled_words.specs.Rule.{IsRuled}

ended_small : (count : ℕ) (ended : List Ended) → AllByRecursion (λ (e : Ended). IsLogWithin count e.room e.log) ended → AllByRecursion (λ (e : Ended). e.room < 2 ^ 32) ended
    → (n : ℕ) → length (ended_log ended n) < 2 ^ 32
ended_small count [] within small n = omega arith
ended_small count (e ∷ ended) within small n =
    elim (cases_Bool (e.number == n)) [
      | inl here ↦ rw here (let fits = within.0.fits in let room = small.0 in omega (arith, fits, room))
      | inr there ↦ rw there (ended_small count ended within.1 small.1 n)
    ]

-- the count of commits can't wrap
pub count_is_small : (F : Fixed) (rooms : List ℕ) (s : State (Unit {0}) SightView) (r : IsRuled F rooms s) → slice_index s.words 0 < 2 ^ 40
count_is_small F rooms s r =
    let stands = r.stands.core in
    let small : (k : ℕ) → length (log_of r.core.view k) < 2 ^ 32 =
    λ k. elim (cases_Bool (r.core.view k).live) [
      | inl lives ↦ rw lives (let fits = (stands.seats k).counted.within.fits in let room = r.fits.room k in omega (arith, fits, room))
      | inr ended ↦ rw ended (ended_small r.core.words.commits (r.core.view 0).ended
          (recursion_from_All (λ (e : Ended). IsLogWithin r.core.words.commits e.room e.log) (r.core.view 0).ended stands.ended)
          (recursion_from_All (λ (e : Ended). e.room < 2 ^ 32) (r.core.view 0).ended r.fits.ended) k)
    ] in
    let all = below_small (r.core.view 0).made (log_of r.core.view) small in
    let made = r.fits.made in
    let few = r.fits.few in
    let same = length_permutation r.history (items_of r.core.view) stands.items in
    let count = r.words.each 0 (omega arith) in
    let commits = stands.count in
    omega (arith, all, made, few, same, count, commits)

-- the count that a seat has seen isn't above the count of commits
pub seen_is_below : (F : Fixed) (rooms : List ℕ) (s : State (Unit {0}) SightView) (r : IsRuled F rooms s) (i : ℕ) (sight : SightView) → get_elem? s.views i ≡ maybe.some sight
    → sight.view.seen ≤ slice_index s.words 0
seen_is_below F rooms s r i sight at =
    let known : (r.core.view i).seen ≤ r.core.words.commits = (r.stands.core.seats i).counted.known in
    let seen : (r.core.view i).seen ≡ sight.view.seen = ap (λ (v : View). v.seen) (r.seats.view i sight at) in
    let count : slice_index s.words 0 ≡ r.core.words.commits = r.words.each 0 (omega arith) in
    omega (arith, known, seen, count)
