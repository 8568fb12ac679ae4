-- A machine at its start, to whose seats commands are given one after another.
use Rattle.std.proofs.Common.{◌≡◌, ℕ, zero, suc, ◌<◌, ◌≤◌, true, List, [], ◌∷◌, length, map, get_or, refl, sym, ap, ◌∙◌, subst, Some, None, arith}
use Rattle.entity_recs.specs.Commands.{Command}
use Rattle.core_steps.specs.Nodes.{Fixed}
use Rattle.core_steps.specs.Points.{Idle}
use Rattle.core_steps.specs.Reads.{View}
use Rattle.core_steps.specs.Machine.{Machine}
use Rattle.core_steps.specs.Calls.{start_machine}
use Rattle.core_steps.proofs.Reached.{idle_at_start}
use Rattle.core_machine.proofs.Starting.{seats_with, views_of, more_seat, start_views}

-- the first seats have a command of the player with their number, and the others none; the first n seats live and have room
pub record IsFilled (m : Machine) (i n : ℕ) : Type 0 where
  pub idle : (j : ℕ) → (m.core.view j).point ≡ Idle
  pub own : (j : ℕ) (d : Command) → m.given j ≡ Some d → d.slot ≡ j
  pub none : (j : ℕ) → i ≤ j → m.given j ≡ None
  pub lives : (j : ℕ) → j < n → (m.core.view j).live ≡ true
  pub room : (j : ℕ) → j < n → length (m.core.view j).log < (m.core.view j).room

none_is : {R : Type 0} (d : Command) → None ≡ Some d → R
none_is d e = cc

more_live : (rooms : List ℕ) (j : ℕ) → j < length rooms → (views_of (map more_seat rooms) j).live ≡ true
more_live [] j below = absurd (omega arith)
more_live (room ∷ rooms) zero below = refl
more_live (room ∷ rooms) (suc j) below = more_live rooms j (omega arith)

more_room : (rooms : List ℕ) → ((k : ℕ) → k < length rooms → 0 < get_or rooms k 0) → (j : ℕ) → j < length rooms → length (views_of (map more_seat rooms) j).log < (views_of (map more_seat rooms) j).room
more_room [] some j below = absurd (omega arith)
more_room (room ∷ rooms) some zero below = some 0 below
more_room (room ∷ rooms) some (suc j) below = more_room rooms (λ k less. some (suc k) (omega arith)) j (omega arith)

lives_at : (first : ℕ) (rooms : List ℕ) (j : ℕ) → j < length (first ∷ rooms) → (views_of (seats_with first rooms) j).live ≡ true
lives_at first rooms zero below = refl
lives_at first rooms (suc j) below = more_live rooms j (omega arith)

room_at : (first : ℕ) (rooms : List ℕ) → ((k : ℕ) → k < length (first ∷ rooms) → 0 < get_or (first ∷ rooms) k 0) → (j : ℕ) → j < length (first ∷ rooms)
    → length (views_of (seats_with first rooms) j).log < (views_of (seats_with first rooms) j).room
room_at first rooms some zero below = some 0 below
room_at first rooms some (suc j) below = more_room rooms (λ k less. some (suc k) (omega arith)) j (omega arith)

start_filled : (F : Fixed) (first : ℕ) (rooms : List ℕ) → ((k : ℕ) → k < length (first ∷ rooms) → 0 < get_or (first ∷ rooms) k 0) → IsFilled (start_machine F first rooms) 0 (length (first ∷ rooms))
start_filled F first rooms some = record {
  idle = idle_at_start F first rooms;
  own = λ j d e. none_is d e;
  none = λ j _. refl;
  lives = λ j below. ap (λ (v : ℕ → View). (v j).live) (start_views F first rooms) ∙ lives_at first rooms j below;
  room = λ j below. subst (λ (v : ℕ → View). length (v j).log < (v j).room) (sym (start_views F first rooms)) (room_at first rooms some j below);
}

-- at the start no seat has a command
pub none_given_yet : (F : Fixed) (m : Machine) (room : List ℕ) → 0 < length room → ((first : ℕ) (others : List ℕ) → room ≡ first ∷ others → m ≡ start_machine F first others)
    → ((k : ℕ) → k < length room → 0 < get_or room k 0) → IsFilled m 0 (length room)
none_given_yet F m [] some is room = absurd (omega arith)
none_given_yet F m (first ∷ others) some is room =
    subst (λ (k : Machine). IsFilled k 0 (length (first ∷ others))) (sym (is first others refl)) (start_filled F first others room)
