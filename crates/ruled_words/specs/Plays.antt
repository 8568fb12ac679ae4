-- What the caller of a step knows after it.
use Rattle.std.specs.Prelude.{◌≡◌, ℕ, ◌+◌, ◌^◌, ◌<◌, ◌≤◌, Bool, true, List, [], ◌∷◌, ◌++◌, length, Option}
use Rattle.core_steps.specs.declared.sizes.TheConstants.{TABLE_WORDS}
use Rattle.atomic_table.specs.Table.{Me}
use Rattle.entity_recs.specs.Commands.{Command}
use Rattle.core_steps.specs.Nodes.{Fixed}
use Rattle.core_steps.specs.Reads.{record_read}
use Rattle.core_steps.specs.declared.step.StepKind.TheVariants.{Commit}
use Rattle.core_steps.specs.Machine.{Next, ReadPlayer, YieldCount, index_of, kind_of}
use Rattle.core_seats.specs.Going.{view_found, word_left}
use Rattle.core_seats.specs.Sound.{IsSound}
use Rattle.ruled_words.specs.Sights.{SightView, tally_after}
use Rattle.ruled_words.specs.Going.{view_looked, MayGo}
use Rattle.ruled_words.specs.Holders.{IsFoundHeld, AreReached}

-- a sound view, from which each step that may come lies in the table
pub record IsSoundSight (F : Fixed) (passes : ℕ) (sight : SightView) : Type 0 where
  pub sound : IsSound F sight.view
  pub in_table : (given : Option Command) (quits : Bool) (next : Next)
      → MayGo F passes sight.number sight.view given quits next → index_of sight.view next < TABLE_WORDS

-- the seat keeps its number, its view is the one after the step and sound, a count that it adds 1 to doesn't wrap, a
-- player's record whose last word it loads is one that the action takes, and a count that it loads isn't below the one
-- that it had seen
pub record Went (F : Fixed) (passes : ℕ) (next : Next) (before : SightView) (found : ℕ) (after : SightView) : Type 0
  where
    pub number : after.number ≡ before.number
    pub view : after.view ≡ view_found F before.view next found
    pub tally : after.tally ≡ tally_after next found (word_left F before.number before.view next found)
        before.tally
    pub sound_sight : IsSoundSight F passes after
    pub small : kind_of next ≡ Commit → found + 1 < 2 ^ 64
    pub taken : (node slot : ℕ) (part players plan : List ℕ) → next ≡ ReadPlayer node part slot players plan
        → length part ≡ 5 → F.takes (record_read slot (part ++ found ∷ [])) ≡ true
    pub counted : next ≡ YieldCount → before.view.seen ≤ found

-- the seat went on, and carries what it carried
abbrev pub SeatWent : Fixed → ℕ → Next → Me (Unit {0}) SightView → ℕ → Me (Unit {0}) SightView → Type 0
SeatWent F passes next before found after = Went F passes next before.0 found after.0 × (after.1 ≡ before.1)

-- the seat went on; a node that the step takes is one of its leaves or visited by them, and where it isn't free, another
-- seat holds it; and a count to which it adds 1 isn't below the one that it had seen
pub record SeatStepped (F : Fixed) (passes : ℕ) (next : Next) (before : Me (Unit {0}) SightView) (found : ℕ)
    (after : Me (Unit {0}) SightView) : Type 0 where
  pub went : SeatWent F passes next before found after
  pub held : IsFoundHeld F passes before.0.number next found
  pub reached : AreReached F before.0.view next
  pub seen : kind_of next ≡ Commit → before.0.view.seen ≤ found

-- the seat keeps its number, the count that was found is the one that it has seen and isn't below the one that it had
-- seen, and its view is sound
pub record Looked (F : Fixed) (passes : ℕ) (before : SightView) (found : ℕ) (after : SightView) : Type 0 where
  pub number : after.number ≡ before.number
  pub view : after.view ≡ view_looked found before.view
  pub tally : after.tally ≡ before.tally
  pub seen : before.view.seen ≤ found
  pub sound_sight : IsSoundSight F passes after

-- the seat looked at the count, and carries what it carried
abbrev pub SeatLooked : Fixed → ℕ → Me (Unit {0}) SightView → ℕ → Me (Unit {0}) SightView → Type 0
SeatLooked F passes before found after = Looked F passes before.0 found after.0 × (after.1 ≡ before.1)
