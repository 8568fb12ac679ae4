-- Worked rows on the machine, with an action in which a player stays where it is.
use Rattle.std.specs.Prelude.{ℕ, zero, suc, ◌≡◌, true, List, [], ◌∷◌, ◌++◌, Some, pos, neg_ℤ, ℤ}
use Rattle.entity_recs.specs.declared.kind.Kind.TheVariants.{Player}
use Rattle.entity_recs.specs.declared.bodies.TheConstants.{PLAYER_MINS, PLAYER_MAXS}
use Rattle.entity_recs.specs.declared.rec.Rec.{Rec}
use Rattle.entity_recs.specs.Bodies.{abs_of}
use Rattle.entity_recs.specs.Commands.{Command}
use Rattle.entity_recs.specs.Worlds.{zero_vector, world_of}
use Rattle.core_steps.specs.Nodes.{Fixed}
use Rattle.core_steps.specs.Points.{Owning}
use Rattle.core_steps.specs.Reads.{new_view}
use Rattle.core_steps.specs.declared.step.StepKind.TheVariants.{Take, Load}
use Rattle.core_steps.specs.Machine.{Machine, Begin, TakeNode, next_of, step_of}
use Rattle.core_steps.specs.Calls.{start_machine, Call, Give, Go}
use Rattle.core_steps.specs.Calls.{after_calls}

-- a player at rest
abbrev pub player_at_rest : ℕ → ℤ → ℤ → Rec
player_at_rest slot x y = record {
  id = slot;
  kind = Player;
  origin = record { x = x; y = y; z = pos 6144 };
  mins = PLAYER_MINS;
  maxs = PLAYER_MAXS;
  vel = zero_vector;
  flags = 0;
  ammo = 0;
  carry = 0;
  score = 0;
  seq = 0;
  state = 0;
}

-- the example with these records: a player stays where it is and keeps the number of its command
abbrev pub staying_example : List Rec → Fixed
staying_example records = record {
  takes = λ r. true;
  region_of = λ me c. abs_of me ∷ [];
  effect_of = λ me near c. record
      { me = record me { seq = c.seq }; states = []; reply = record { origin = me.origin; got = [] } };
  tree = record {
    depth = 4;
    bounds = record {
      lo = record { x = neg_ℤ (pos 131072); y = neg_ℤ (pos 131072); z = pos 0 };
      hi = record { x = pos 131072; y = pos 131072; z = pos 65536 };
    };
  };
  start = world_of records;
}

-- a command of 50 ms without a wish
abbrev pub plain : ℕ → Command
plain slot = record { slot = slot; seq = 1; frame = 0; ms = 50; wish_x = pos 0; wish_y = pos 0; buttons = 0 }

-- two players so close that they share leaf 0
abbrev pub near_players : Fixed
near_players = staying_example (player_at_rest 0 (pos 98304) (pos 98304) ∷ player_at_rest 1 (pos 85504) (pos 98304) ∷ [])

-- a seat goes on so many times
abbrev pub times : ℕ → ℕ → List Call
times zero i = []
times (suc n) i = Go i ∷ times n i

-- two seats with room for one command each, and a command for each
abbrev pub with_two : Fixed → Machine
with_two F = after_calls F (start_machine F 1 (1 ∷ [])) (Give 0 (plain 0) ∷ Give 1 (plain 1) ∷ [])

-- the six words of the second near player: x and y; z and vx; vy and vz; score and seq; flags, ammo and carry; and the
-- state
abbrev pub second_words : List ℕ
second_words = 422212465151488 ∷ 6144 ∷ 0 ∷ 0 ∷ 0 ∷ 0 ∷ []

-- near: seat 1 has made its first load
abbrev pub first_load : Machine
first_load = after_calls near_players (with_two near_players) (times 1 1)

-- the first view: the command and the first word of the own record, of which the other words are to be loaded
pub record FirstView : Type 0 where
  pub step : step_of 1 ((with_two near_players).core.view 1) (Begin (plain 1))
      ≡ record { seat = 1; word = 132; kind = Load }
  pub view : first_load.core.view 1 ≡ record (new_view 1) { cmd = plain 1; own = 422212465151488 ∷ []; point = Owning }

-- near: seat 1 has loaded its own record, and seat 0 has made seven steps
abbrev pub before_refusal : Machine
before_refusal = after_calls near_players (with_two near_players) (times 6 1 ++ times 7 0)

-- near: seat 1 has tried to take node 15
abbrev pub after_refusal : Machine
after_refusal = after_calls near_players before_refusal (times 1 1)

-- near: seat 0 holds node 15, so that seat 1's take of it is refused, and what it found is in its view
pub record NearRow : Type 0 where
  pub held : before_refusal.core.words.node 15 ≡ 257
  pub next : next_of near_players before_refusal 1 ≡ Some (TakeNode 15)
  pub step : step_of 1 (before_refusal.core.view 1) (TakeNode 15)
      ≡ record { seat = 1; word = 16; kind = Take }
  pub refused : (after_refusal.core.view 1).refused
      ≡ Some (record { node = 15; word = 257; own = second_words; wanted = 15 ∷ [] })
  pub count : (after_refusal.core.view 1).refusals ≡ 1
  pub still : after_refusal.core.words.node 15 ≡ 257
