-- What was read of players, in a list.
use Rattle.std.proofs.Common.{◌≡◌, ℕ, ◌==◌, Bool, true, false, List, [], ◌∷◌, map, refl, ap}
use Rattle.std.specs.Prelude.{filter, not, is_some, Some, if◌then◌else◌}
use Rattle.core_steps.specs.Reads.{player_at, without_player}
use Rattle.core_seats.specs.declared.reads.PlayerRead.{PlayerRead}
use Rattle.core_seats.specs.PlayerReads.{player_read_of}

pub without_mapped : (slot : ℕ) (xs : List PlayerRead) → map player_read_of (filter (λ (r : PlayerRead). not (r.slot == slot)) xs) ≡ without_player slot (map player_read_of xs)
without_mapped slot [] = refl
without_mapped slot (x ∷ xs) = by_test (x.slot == slot) (without_mapped slot xs)
  where
    by_test : (b : Bool) → map player_read_of (filter (λ (r : PlayerRead). not (r.slot == slot)) xs) ≡ without_player slot (map player_read_of xs)
        → map player_read_of (if not b then x ∷ filter (λ (r : PlayerRead). not (r.slot == slot)) xs else filter (λ (r : PlayerRead). not (r.slot == slot)) xs)
        ≡ (if not b then player_read_of x ∷ without_player slot (map player_read_of xs) else without_player slot (map player_read_of xs))
    by_test true rest = rest
    by_test false rest = ap (λ rs. player_read_of x ∷ rs) rest

-- without what was loaded of a player of whom nothing was, the list is the same
pub none_dropped : (slot : ℕ) (xs : List PlayerRead) → is_some (player_at (map player_read_of xs) slot) ≡ false
    → filter (λ (r : PlayerRead). not (r.slot == slot)) xs ≡ xs
none_dropped slot [] none = refl
none_dropped slot (x ∷ xs) none = by_test (x.slot == slot) none (none_dropped slot xs)
  where
    by_test : (b : Bool) → is_some (if b then Some x.words else player_at (map player_read_of xs) slot) ≡ false
        → (is_some (player_at (map player_read_of xs) slot) ≡ false → filter (λ (r : PlayerRead). not (r.slot == slot)) xs ≡ xs)
        → (if not b then x ∷ filter (λ (r : PlayerRead). not (r.slot == slot)) xs else filter (λ (r : PlayerRead). not (r.slot == slot)) xs) ≡ x ∷ xs
    by_test true none same = cc
    by_test false none same = ap (λ rs. x ∷ rs) (same none)
