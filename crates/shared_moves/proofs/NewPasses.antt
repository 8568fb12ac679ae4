-- New hands have new seats, each with its room.
use Rattle.std.proofs.Common.{◌≡◌, ℕ, zero, suc, ◌+◌, ◌-◌, ◌<◌, ◌≤◌, List, [], ◌∷◌, map, length, refl, sym, ap, ◌∙◌, subst, arith, slice_index, drop}
use Rattle.std.specs.List.{range_with_len}
use Rattle.atomic_table.specs.Seated.{TableId}
use Rattle.ruled_words.specs.Passes.{PassView}
use Rattle.ruled_words.specs.NewPasses.{new_passes, other_pass}
use Rattle.ruled_words.specs.declared.setting.Setting.{Setting}
use Rattle.shared_moves.specs.PassParts.{IsFresh, AreFresh}

-- the next hand, with its room, and those after it
pub record IsNextFresh (near_room k : ℕ) (rooms : List ℕ) (hand : PassView) (rest : List PassView) : Type 0 where
  pub within : k < length rooms
  pub fresh : IsFresh near_room (slice_index rooms k) hand
  pub others : AreFresh near_room (drop (suc k) rooms) rest

pub next_fresh : (near_room k : ℕ) (rooms : List ℕ) (hand : PassView) (rest : List PassView) → AreFresh near_room (drop k rooms) (hand ∷ rest) → IsNextFresh near_room k rooms hand rest
next_fresh near_room zero [] hand rest are = absurd are
next_fresh near_room zero (room ∷ rooms) hand rest are = record { within = omega arith; fresh = are.0; others = are.1 }
next_fresh near_room (suc k) [] hand rest are = absurd are
next_fresh near_room (suc k) (room ∷ rooms) hand rest are =
    let later = next_fresh near_room k rooms hand rest are in
    let within = later.within in
    record { within = omega (arith, within); fresh = later.fresh; others = later.others }

module _ (near_room : ℕ) (table : TableId) (setting : Setting) (fits : 64 + setting.records ≤ near_room) where
  fresh_others : (rooms left : List ℕ) (low : ℕ) → ((k : ℕ) → slice_index left k ≡ slice_index rooms (low + k))
      → AreFresh near_room left (map (other_pass table setting rooms) (range_with_len low (length left)))
  fresh_others rooms [] low same = tt
  fresh_others rooms (room ∷ left) low same = (
    record {
      no_item = refl;
      room_is = sym (same 0 ∙ ap (slice_index rooms) (no_more low));
      none_refused = refl;
      last_refused = refl;
      near_fits = fits;
    },
    fresh_others rooms left (low + 1) (λ k. same (suc k) ∙ ap (slice_index rooms) (next_place low k)),
  )
    where
      no_more : (n : ℕ) → n + 0 ≡ n
      no_more n = omega arith

      next_place : (n k : ℕ) → n + suc k ≡ n + 1 + k
      next_place n k = omega arith

  pub new_are_fresh : (rooms : List ℕ) → 0 < length rooms → AreFresh near_room rooms (new_passes table setting rooms)
  new_are_fresh [] some = absurd (omega (arith, some))
  new_are_fresh (room ∷ rooms) some =
      let count : length rooms ≡ length (room ∷ rooms) - 1 = omega arith in (
        record { no_item = refl; room_is = refl; none_refused = refl; last_refused = refl; near_fits = fits },
        subst (λ (n : ℕ). AreFresh near_room rooms (map (other_pass table setting (room ∷ rooms)) (range_with_len 1 n))) count
            (fresh_others (room ∷ rooms) rooms 1 (λ k. ap (slice_index (room ∷ rooms)) (from_next k))),
      )
    where
      from_next : (k : ℕ) → suc k ≡ 1 + k
      from_next k = omega arith
