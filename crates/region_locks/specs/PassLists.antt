-- What a pass keeps beside its hand.
use Rattle.std.specs.Prelude.{◌≡◌, ◌≤◌, ◌+◌, ℕ, List, [], ◌∷◌, Option}
use Rattle.entity_recs.specs.declared.effect.Effect.{Effect}
use Rattle.core_machine.specs.declared.seat.Seat.{Seat}
use Rattle.core_machine.specs.Seats.{view_of, given_of, things_room}
use Rattle.world_tree.specs.Nears.{NearView}
use Rattle.ruled_words.specs.Passes.{PassView}
use Rattle.ruled_words.specs.Hands.{IsPlain}
use Rattle.ruled_words.specs.NewPasses.{view_with_made}

-- the pass of this hand, with the same seat in plain values and the effect that is kept
abbrev pub pass_view : PassView → Seat → Option Effect → PassView
pass_view hand seat effect = record hand {
  given = given_of seat;
  quits = seat.quits;
  effect = effect;
  view = view_of seat;
}

-- the seat in plain values has the hand's view, and there is room for the states of all things and for all records that
-- may be near: those of 64 players, and all that live at the start
pub record HasItsLists (hand : PassView) (seat : Seat) (list : NearView) : Type 0 where
  pub same_view : view_of seat ≡ hand.view
  pub things_fit : hand.setting.records ≤ things_room seat
  pub near_fits : 64 + hand.setting.records ≤ list.room

-- the hand's seat is new, with this room, and so many seats are made from it; no more records live at the start than that
pub record IsNew (records room made : ℕ) (hand : PassView) : Type 0 where
  pub view : hand.view ≡ view_with_made room made
  pub plain : IsPlain hand
  pub fits : hand.setting.records ≤ records

-- each of the hands has a new seat with the room in its place, and there are as many as rooms; so many seats are made from
-- the first
abbrev pub AreNew : ℕ → ℕ → List ℕ → List PassView → Type 0
AreNew records made [] [] = Unit {0}
AreNew records made [] (hand ∷ hands) = ⊥
AreNew records made (room ∷ rooms) [] = ⊥
AreNew records made (room ∷ rooms) (hand ∷ hands) = IsNew records room made hand × AreNew records 0 rooms hands
