-- The live records of the first places, and the places of live ids.
use Rattle.std.proofs.Common.{◌≡◌, ℕ, zero, suc, ◌<◌, List, [], ◌∷◌, ◌++◌, length, take, Option, Some, None, refl, ap, arith}
use Rattle.std.specs.Option.{option_to_list}
use Rattle.std.proofs.lemmas.Option.{none-some}
use Rattle.entity_recs.specs.declared.rec.Rec.{Rec}
use Rattle.world_tree.specs.Live.{record_at, live_in}

-- the live records of the first places, and of one more
pub live-suc : (records : List (Option Rec)) (k : ℕ) → live_in (take (suc k) records) ≡ live_in (take k records) ++ option_to_list (record_at records k)
live-suc [] zero = refl
live-suc [] (suc k) = refl
live-suc (None ∷ records) zero = refl
live-suc (Some r ∷ records) zero = refl
live-suc (None ∷ records) (suc k) = live-suc records k
live-suc (Some r ∷ records) (suc k) = ap (λ (rs : List Rec). r ∷ rs) (live-suc records k)

-- a live id is one of the places
pub live_below : (records : List (Option Rec)) (id : ℕ) (r : Rec) → record_at records id ≡ Some r → id < length records
live_below [] id r at = absurd (none-some r at)
live_below (x ∷ records) zero r at = omega arith
live_below (x ∷ records) (suc id) r at = let rest = live_below records id r at in omega (arith, rest)
