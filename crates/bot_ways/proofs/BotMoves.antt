-- Where the moves of a bot lead.
use Rattle.std.proofs.Common.{◌≡◌, ℕ, zero, suc, ◌+◌, ◌<◌, List, [], ◌∷◌, length, map, Some, slice_get, ℤ, ◌-ℤ◌, refl, ap, ◌∙◌, subst, sym, arith}
use Rattle.std.specs.List.{range_with_len}
use Rattle.std.proofs.lemmas.List.FromFn.{length-map-range_with_len}
use Rattle.arena_geo.specs.declared.vec3.Vec3.{Vec3}
use Rattle.box_trace.proofs.Straight.{share_at}
use Rattle.packet_read.specs.declared.arrival.Arrival.{Arrival}
use Rattle.bot_ways.specs.Edges.{distance}
use Rattle.bot_ways.specs.Moves.{waypoint_points, wish_along, move_towards, moves_between, move_frame, frames_between, frames_through}
use Rattle.bot_ways.specs.BotMoves.{IsWishFor, LeadsTowards, HasMoveTowards, LeadFrom, LeadThrough, nowhere, there, further, BotsFollowTheirWays}

-- ---- a move

wish_for : (part : ℤ) (whole : ℕ) → 0 < whole → IsWishFor part whole (wish_along part whole)
wish_for part whole some =
    let share = share_at 320 whole part some in
    record {
      least = omega (arith, share.least);
      most = omega (arith, share.most);
      stays_positive = share.stays_positive;
      stays_negative = share.stays_negative;
    }

leads : (seq : ℕ) (a b : Vec3) → 0 < distance a b → LeadsTowards seq a b (move_towards seq a b)
leads seq a b apart = record {
  seq_is = refl;
  time = refl;
  x = wish_for (b.x -ℤ a.x) (distance a b) apart;
  y = wish_for (b.y -ℤ a.y) (distance a b) apart;
  no_button = refl;
}

-- ---- from one place to another

-- the entry of a list of values at numbers from this one on
record IsValueAt (f : ℕ → List Arrival) (seq n k : ℕ) (frame : List Arrival) : Type 0 where
  within : k < n
  is : frame ≡ f (seq + k)

value_at : (f : ℕ → List Arrival) (seq n k : ℕ) (frame : List Arrival) → slice_get (map f (range_with_len seq n)) k ≡ Some frame
    → IsValueAt f seq n k frame
value_at f seq zero k frame at = absurd cc
value_at f seq (suc n) zero frame at =
    let first : f seq ≡ frame = cc in
    record { within = omega arith; is = sym first ∙ ap f (omega arith) }
value_at f seq (suc n) (suc k) frame at =
    let later = value_at f (seq + 1) n k frame at in
    record { within = omega (arith, later.within); is = later.is ∙ ap f (omega arith) }

has_move : (seq : ℕ) (a b : Vec3) (k : ℕ) (frame : List Arrival) → slice_get (frames_between seq a b) k ≡ Some frame
    → HasMoveTowards (seq + k) a b frame
has_move seq a b k frame at =
    let value = value_at (move_frame a b) seq (moves_between a b) k frame at in
    record { move = move_towards (seq + k) a b; leads = leads (seq + k) a b (omega (arith, value.within)); alone = value.is }

between : (seq : ℕ) (a b : Vec3) → LeadFrom seq a b (frames_between seq a b)
between seq a b =
    let count = length-map-range_with_len (move_frame a b) seq (moves_between a b) in
    record {
      enough = omega (arith, count);
      fewest = λ n far. omega (arith, count, far);
      each = has_move seq a b;
    }

-- ---- along a way

through : (seq : ℕ) (places : List Vec3) → LeadThrough seq places (frames_through seq places)
through seq [] = nowhere seq
through seq (a ∷ []) = there seq a
through seq (a ∷ b ∷ more) =
    let here = frames_between seq a b in
    let count : moves_between a b ≡ length here = sym (length-map-range_with_len (move_frame a b) seq (moves_between a b)) in
    let rest = frames_through (seq + moves_between a b) (b ∷ more) in
    let later : LeadThrough (seq + length here) (b ∷ more) rest =
    subst (λ n. LeadThrough (seq + n) (b ∷ more) rest) count (through (seq + moves_between a b) (b ∷ more)) in
    further seq a b more here rest (between seq a b) later

pub bots_follow_their_ways : BotsFollowTheirWays
bots_follow_their_ways m way = record {
  moves = frames_through 1 (waypoint_points m way);
  joins = refl;
  lead = through 1 (waypoint_points m way);
}
