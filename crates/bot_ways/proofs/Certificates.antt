-- Lengths with a certificate are the least ones.
use Rattle.std.proofs.Common.{◌≡◌, ◌↔◌, ℕ, zero, suc, ◌+◌, ◌<◌, ◌≤◌, List, [], ◌∷◌, length, Option, Some, None, refl, subst, arith}
use Rattle.arena_map.specs.Maps.{MapView}
use Rattle.bot_ways.specs.Walks.{IsWalk, alone, longer, IsUnreached, IsLeast, length_to, HasLeast}
use Rattle.bot_ways.specs.Ways.{IsAtMost, IsCertificate}
use Rattle.bot_ways.proofs.EdgeParts.{edge_least, from_within}
use Rattle.bot_ways.proofs.Lengths.{within_of, at_most_of, at_most_more, length_within, same_length}

-- a walk begins at a waypoint
pub begins_within : (map : MapView) (u to n : ℕ) (walk : List ℕ) → IsWalk map u to walk n → u < length map.spawns
begins_within map _ _ _ _ (alone u there) = there
begins_within map _ _ _ _ (longer u v to step n walk e rest) = from_within map u v step e

-- some walk from waypoint 0 has this length
pub record HasWalk (map : MapView) (to n : ℕ) : Type 0 where
  pub walk : List ℕ
  pub is_walk : IsWalk map 0 to walk n

module _ (map : MapView) (least : List (Option ℕ)) (cert : IsCertificate map least) where
  -- the length where a walk ends is at most the sum of the length where it begins and its own
  pub end_at_most : (u to n : ℕ) (walk : List ℕ) → IsWalk map u to walk n → (here : ℕ) → length_to least u ≡ Some here
      → IsAtMost (here + n) (length_to least to)
  end_at_most _ _ _ _ (alone u there) here h = at_most_of (here + 0) here (length_to least u) h (omega arith)
  end_at_most _ _ _ _ (longer u v to step n walk e rest) here h =
      let mid = within_of (here + step) (length_to least v) (cert.closed u v here step h e) in
      at_most_more (mid.number + n) (here + (step + n)) (length_to least to) (omega arith) (end_at_most v to n walk rest mid.number mid.is)

  -- a waypoint with a length, waypoint 0 or not, is at the end of a walk of that length, and each walk from it goes on
  pub walk_back : (fuel u here to n : ℕ) (walk : List ℕ) → here ≤ fuel → length_to least u ≡ Some here → IsWalk map u to walk n
      → HasWalk map to (here + n)
  walk_back fuel zero here to n walk le h w =
      let there = length_within least 0 here h in
      let count = cert.count in
      let none : 0 ≡ here = same_length (length_to least 0) 0 here (cert.start (omega arith)) h in
      let same : n ≡ here + n = omega arith in
      record { walk = walk; is_walk = subst (IsWalk map 0 to walk) same w }
  walk_back zero (suc v) here to n walk le h w =
      let has = cert.tight (suc v) here h (λ e. cc) in
      let b = has.before in
      let positive = edge_least map has.waypoint (suc v) b.step b.edge_is in
      let sum : b.here + b.step ≡ here = same_length (length_to least (suc v)) (b.here + b.step) here b.to h in
      absurd (omega arith)
  walk_back (suc fuel) (suc v) here to n walk le h w =
      let has = cert.tight (suc v) here h (λ e. cc) in
      let b = has.before in
      let positive = edge_least map has.waypoint (suc v) b.step b.edge_is in
      let sum : b.here + b.step ≡ here = same_length (length_to least (suc v)) (b.here + b.step) here b.to h in
      let front = walk_back fuel has.waypoint b.here to (b.step + n) (has.waypoint ∷ walk) (omega arith) b.from
      (longer has.waypoint (suc v) to b.step n walk b.edge_is w) in
      let same : b.here + (b.step + n) ≡ here + n = omega arith in
      record { walk = front.walk; is_walk = subst (IsWalk map 0 to front.walk) same front.is_walk }

  -- no walk from waypoint 0 is shorter than the length where it ends
  pub from_start : (to n : ℕ) (walk : List ℕ) → IsWalk map 0 to walk n → IsAtMost n (length_to least to)
  from_start to n walk w =
      at_most_more (0 + n) n (length_to least to) (omega arith)
      (end_at_most 0 to n walk w 0 (cert.start (begins_within map 0 to n walk w)))

  least_at : (v : ℕ) (o : Option ℕ) → length_to least v ≡ o → IsLeast map v o
  least_at v None h = λ walk n w. subst (IsAtMost n) h (from_start v n walk w)
  least_at v (Some n) h =
      let count = cert.count in
      let there = length_within least v n h in
      let back = walk_back n v n v 0 (v ∷ []) (omega arith) h (alone v (omega arith)) in
      let same : n + 0 ≡ n = omega arith in
      record {
        walk = back.walk;
        is_walk = subst (IsWalk map 0 v back.walk) same back.is_walk;
        least = λ other m w. subst (IsAtMost m) h (from_start v m other w);
      }

  pub certified : HasLeast map least
  certified = record { count = cert.count; each = λ v. least_at v (length_to least v) refl }

  unreached_at : (v : ℕ) (o : Option ℕ) → length_to least v ≡ o → IsLeast map v o → IsUnreached map v → o ≡ None
  unreached_at v None h is never = refl
  unreached_at v (Some n) h is never = absurd (never is.walk n is.is_walk)

  -- a waypoint has no length exactly where no walk leads to it
  pub unreached : (v : ℕ) → (length_to least v ≡ None) ↔ IsUnreached map v
  unreached v = (
    λ none walk n w. subst (IsAtMost n) none (from_start v n walk w),
    λ never. unreached_at v (length_to least v) refl (certified.each v) never,
  )
