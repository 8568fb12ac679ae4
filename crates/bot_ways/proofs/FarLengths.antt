-- Least lengths are at most 65,536 for each other waypoint.
use Rattle.std.proofs.Common.{◌≡◌, ℕ, zero, suc, ◌+◌, ◌*◌, ◌≤◌, List, Option, Some, arith}
use Rattle.arena_map.specs.Maps.{MapView, IsMap}
use Rattle.bot_ways.specs.Walks.{length_to}
use Rattle.bot_ways.specs.Ways.{IsCertificate}
use Rattle.bot_ways.proofs.EdgeParts.{edge_least, edge_most}
use Rattle.bot_ways.proofs.Lengths.{length_within, same_length}
use Rattle.bot_ways.proofs.WaysBack.{less, less_of_all, less_of_more}

module _ (map : MapView) (least : List (Option ℕ)) (cert : IsCertificate map least) where
  -- each waypoint with a lesser length adds an edge at most
  far_by_less : (fuel v n : ℕ) → n ≤ fuel → length_to least v ≡ Some n → n ≤ 65536 * less n least
  far_by_less fuel zero n le h =
      let there = length_within least 0 n h in
      let count = cert.count in
      let none : 0 ≡ n = same_length (length_to least 0) 0 n (cert.start (omega arith)) h in
      omega arith
  far_by_less zero (suc v) n le h =
      let has = cert.tight (suc v) n h (λ e. cc) in
      let b = has.before in
      let positive = edge_least map has.waypoint (suc v) b.step b.edge_is in
      let sum : b.here + b.step ≡ n = same_length (length_to least (suc v)) (b.here + b.step) n b.to h in
      absurd (omega arith)
  far_by_less (suc fuel) (suc v) n le h =
      let has = cert.tight (suc v) n h (λ e. cc) in
      let b = has.before in
      let positive = edge_least map has.waypoint (suc v) b.step b.edge_is in
      let short = edge_most map has.waypoint (suc v) b.step b.edge_is in
      let sum : b.here + b.step ≡ n = same_length (length_to least (suc v)) (b.here + b.step) n b.to h in
      let before = far_by_less fuel has.waypoint b.here (omega arith) b.from in
      let more = less_of_more least has.waypoint b.here n b.from (omega arith) in
      omega arith

  -- a map has at most 63 others
  pub far_at_most : IsMap map → (v n : ℕ) → length_to least v ≡ Some n → n ≤ 4128768
  far_at_most is v n h =
      omega (arith, far_by_less n v n (omega arith) h, less_of_all least v n h, cert.count, is.few_spawns)
