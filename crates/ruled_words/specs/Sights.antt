-- What a seat of the table has in view.
use Rattle.std.specs.Prelude.{ℕ, suc, ◌+◌, ◌≡◌, ◌==◌, if◌then◌else◌, List, [], ◌∷◌, ◌++◌, Option, Some, None, ◌⊎◌}
use Rattle.core_steps.specs.Nodes.{Fixed}
use Rattle.core_steps.specs.Reads.{View, new_view, spent}
use Rattle.core_steps.specs.Steps.{with_ended}
use Rattle.core_steps.specs.Machine.{Next, Begin}
use Rattle.core_steps.specs.Calls.{node_taken}
use Rattle.core_seats.specs.Going.{view_found, word_left}

-- a node, and the word that says who holds it
pub record HeldWord : Type 0 where
  pub node : ℕ
  pub word : ℕ

-- what a seat did: how many commands it began, the words that it wrote where its takes were served, and the words that
-- it found where they were refused, the last first
pub record Tally : Type 0 where
  pub begun : ℕ
  pub served : List HeldWord
  pub refused : List HeldWord

-- nothing was done
abbrev pub no_tally : Tally
no_tally = record { begun = 0; served = []; refused = [] }

-- the commands begun after this step
abbrev pub begun_after : Next → ℕ → ℕ
begun_after (Begin c) begun = suc begun
begun_after _ begun = begun

-- the tally after a take of this node, if one is taken, where the first word was found and the second is left
abbrev pub tally_taken : Option ℕ → ℕ → ℕ → Tally → Tally
tally_taken None found left tally = tally
tally_taken (Some node) found left tally =
    if found == 0 then record tally { served = record { node = node; word = left } ∷ tally.served }
    else record tally { refused = record { node = node; word = found } ∷ tally.refused }

-- the tally after this step, where the first word was found and the second is left
abbrev pub tally_after : Next → ℕ → ℕ → Tally → Tally
tally_after next found left tally =
    record (tally_taken (node_taken next) found left tally) { begun = begun_after next tally.begun }

-- the tally of two seats
abbrev pub tally_of_both : Tally → Tally → Tally
tally_of_both one two = record {
  begun = one.begun + two.begun;
  served = one.served ++ two.served;
  refused = one.refused ++ two.refused;
}

-- it is one of these
abbrev pub IsOneOf : HeldWord → List HeldWord → Type 0
IsOneOf h [] = ⊥
IsOneOf h (x ∷ xs) = (h ≡ x) ⊎ IsOneOf h xs

-- each word that was found where a take was refused was written where one was served
abbrev pub AreRefusalsServed : Tally → Type 0
AreRefusalsServed tally = (h : HeldWord) → IsOneOf h tally.refused → IsOneOf h tally.served

-- the seat's number, its view in the core, and what it did
pub record SightView : Type 0 where
  pub number : ℕ
  pub view : View
  pub tally : Tally

-- what is left in view of a seat that was ended
abbrev pub no_sight : SightView
no_sight = record { number = 0; view = spent; tally = no_tally }

-- the sight of the seat after its step, where this word was found
abbrev pub sight_found : Fixed → SightView → Next → ℕ → SightView
sight_found F sight next found = record {
  number = sight.number;
  view = view_found F sight.view next found;
  tally = tally_after next found (word_left F sight.number sight.view next found) sight.tally;
}

-- the sight of seat 0 after one more seat is made
abbrev pub with_one_made : SightView → SightView
with_one_made sight = record sight { view = record sight.view { made = suc sight.view.made } }

-- the sight of the seat that is made next by this one, with this room
abbrev pub sight_made : ℕ → SightView → SightView
sight_made room sight = record { number = sight.view.made; view = new_view room; tally = no_tally }

-- the sight of seat 0 after that of another seat is ended into it
abbrev pub with_one_ended : SightView → SightView → SightView
with_one_ended sight ended = record sight {
  view = with_ended ended.number ended.view sight.view;
  tally = tally_of_both sight.tally ended.tally;
}
