-- New hands have new seats.
use Rattle.std.proofs.Common.{◌≡◌, ℕ, zero, suc, ◌+◌, ◌-◌, ◌<◌, ◌≤◌, List, [], ◌∷◌, map, length, refl, sym, ap, ◌∙◌, subst, arith, slice_index, drop, None}
use Rattle.std.specs.List.{range_with_len}
use Rattle.atomic_table.specs.Seated.{TableId}
use Rattle.ruled_words.specs.Passes.{PassView}
use Rattle.ruled_words.specs.NewPasses.{new_passes, other_pass, view_with_made}
use Rattle.ruled_words.specs.declared.setting.Setting.{Setting}
use Rattle.region_locks.specs.PassLists.{IsNew, AreNew}

-- the next hand, with its room, and those after it
pub record IsNextNew (records made k : ℕ) (rooms : List ℕ) (hand : PassView) (rest : List PassView) : Type 0 where
  pub within : k < length rooms
  pub new : IsNew records (slice_index rooms k) made hand
  pub others : AreNew records 0 (drop (suc k) rooms) rest

pub next_new : (records made k : ℕ) (rooms : List ℕ) (hand : PassView) (rest : List PassView) → AreNew records made (drop k rooms) (hand ∷ rest) → IsNextNew records made k rooms hand rest
next_new records made zero [] hand rest are = absurd are
next_new records made zero (room ∷ rooms) hand rest are = record { within = omega arith; new = are.0; others = are.1 }
next_new records made (suc k) [] hand rest are = absurd are
next_new records made (suc k) (room ∷ rooms) hand rest are =
    let later = next_new records made k rooms hand rest are in
    let within = later.within in
    record { within = omega (arith, within); new = later.new; others = later.others }

module _ (records : ℕ) (table : TableId) (setting : Setting) (fits : setting.records ≤ records) where
  new_others : (rooms left : List ℕ) (low : ℕ) → ((k : ℕ) → slice_index left k ≡ slice_index rooms (low + k))
      → AreNew records 0 left (map (other_pass table setting rooms) (range_with_len low (length left)))
  new_others rooms [] low same = tt
  new_others rooms (room ∷ left) low same = (
    record {
      view = ap (λ (n : ℕ). view_with_made n 0) (sym (same 0 ∙ ap (slice_index rooms) (no_more low)));
      plain = record { given = refl; quits = refl; effect = refl };
      fits = fits;
    },
    new_others rooms left (low + 1) (λ k. same (suc k) ∙ ap (slice_index rooms) (next_place low k)),
  )
    where
      no_more : (n : ℕ) → n + 0 ≡ n
      no_more n = omega arith

      next_place : (n k : ℕ) → n + suc k ≡ n + 1 + k
      next_place n k = omega arith

  pub all_are_new : (rooms : List ℕ) → 0 < length rooms → AreNew records (length rooms) rooms (new_passes table setting rooms)
  all_are_new [] some = absurd (omega (arith, some))
  all_are_new (room ∷ rooms) some =
      let count : length rooms ≡ length (room ∷ rooms) - 1 = omega arith in (
        record { view = refl; plain = record { given = refl; quits = refl; effect = refl }; fits = fits },
        subst (λ (n : ℕ). AreNew records 0 rooms (map (other_pass table setting (room ∷ rooms)) (range_with_len 1 n))) count
            (new_others (room ∷ rooms) rooms 1 (λ k. ap (slice_index (room ∷ rooms)) (from_next k))),
      )
    where
      from_next : (k : ℕ) → suc k ≡ 1 + k
      from_next k = omega arith
