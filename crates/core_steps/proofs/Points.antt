-- A seat whose point goes on while the rest of its view stays.
use Rattle.std.proofs.Common.{subst, ◌≡◌, ℕ, Bool, true, false, List, [], ◌∷◌, length, refl, sym, ap, ◌∙◌, inl, inr, arith, Option, Some, None, is_some}
use Rattle.std.specs.Prelude.{◌==◌, ◌||◌, not}
use Rattle.std.proofs.lemmas.Bool.{cases_Bool, false≢true, true≢false, eq-eqb, or_cases, or_left, cond-true}
use Rattle.entity_recs.specs.Worlds.{World}
use Rattle.entity_recs.specs.Histories.{Item}
use Rattle.entity_recs.specs.Commands.{Command}
use Rattle.core_steps.specs.Cells.{Words}
use Rattle.core_steps.specs.Nodes.{Fixed, has, is_leaf}
use Rattle.core_steps.specs.Points.{Point, Stage, AtReading, stage_of, is_busy, is_open, is_settled, is_committed}
use Rattle.core_steps.specs.Points.{is_before_leaves, is_whole, is_owning, is_read_again, is_without_effect, is_storing}
use Rattle.core_steps.specs.Points.{stores_owed, Idle, Owning, Taking, Checking, Entering, Entered, Loading, Leaving}
use Rattle.core_steps.specs.Points.{Sensing, Resolving, Claiming, Storing, Releasing, Returning, Yielding}
use Rattle.core_steps.specs.Reads.{ListRead, View, things_in, region_in}
use Rattle.core_steps.specs.Held.{inner_held, leaves_held, holds, held_word}
use Rattle.core_steps.specs.Steps.{visiting, sensing}
use Rattle.core_steps.specs.Stands.{OwesRight, IsAt, IsCurrent, IsGivingUp, IsHolding, HasRead, HasSensed, SeatStands, is_present, part_of}

-- the first holds only where the second does
abbrev pub implies : Bool → Bool → Bool
implies a b = not a || b

pub implied : (a b : Bool) → implies a b ≡ true → a ≡ true → b ≡ true
implied true b is e = is
implied false b is e = absurd (false≢true e)

-- what a stage asks of the view, the other one asks too
pub record StageAsksLess (new old : Stage) : Type 0 where
  pub busy : is_busy new ≡ true
  pub was_busy : is_busy old ≡ true
  pub open' : implies (is_open new) (is_open old) ≡ true
  pub owning : implies (is_owning new) (is_owning old) ≡ true
  pub whole : is_whole new ≡ is_whole old
  pub settled : implies (is_settled new) (is_settled old) ≡ true
  pub again : implies (is_read_again new) (is_read_again old) ≡ true
  pub before : implies (is_before_leaves new) (is_before_leaves old) ≡ true
  pub without : implies (is_without_effect new) (is_without_effect old) ≡ true
  pub committed : implies (is_committed new) (is_committed old) ≡ true
  pub not_storing : is_storing new ≡ false

-- reading goes on
pub reading_goes_on : StageAsksLess AtReading AtReading
reading_goes_on = record {
  busy = refl;
  was_busy = refl;
  open' = refl;
  owning = refl;
  whole = refl;
  settled = refl;
  again = refl;
  before = refl;
  without = refl;
  committed = refl;
  not_storing = refl;
}

-- a seat stands with another point, of which this is known
pub record IsPointStep (F : Fixed) (words : Words) (now : World) (i : ℕ) (view : View) (point : Point) (node' : ℕ → ℕ) : Type 0 where
  pub less : StageAsksLess (stage_of point) (stage_of view.point)
  pub named : (node : ℕ) → holds F point view.wanted node ≡ true → node' node ≡ held_word F i (stage_of point) view.wanted node
  pub holding : IsHolding F view.wanted (leaves_held point view.wanted) (inner_held F point)
  pub at : IsAt F view.cmd view.own view.wanted view.again view.lists view.others view.states view.effect point
  pub current : IsCurrent words.links words.body point view.wanted view.lists
  pub owes : stores_owed point ≡ []
  pub giving_up : IsGivingUp F words.links now view.cmd point view.own view.wanted view.again view.lists view.others view.states view.effect

pub seat_with_point : (F : Fixed) (words : Words) (history : List Item) (now : World) (i : ℕ) (view : View) (point : Point) (node' : ℕ → ℕ)
    → SeatStands F words history now i view → IsPointStep F words now i view point node'
    → SeatStands F (record words { node = node' }) history now i (record view { point = point })
seat_with_point F words history now i view point node' is step =
    let less = step.less in
    record {
      named = step.named;
      holding = step.holding;
      counted = record { within = is.counted.within; known = is.counted.known; has_room = λ e. is.counted.has_room (implied _ _ less.open' e) };
      hand = λ e. is.hand less.was_busy;
      own = record {
        matches = λ e. is.own.matches (implied _ _ less.open' e);
        part = λ e. is.own.part (implied _ _ less.owning e);
        whole = λ e. is.own.whole (sym less.whole ∙ e);
        leaves = λ e. is.own.leaves (sym less.whole ∙ e);
        none = λ e. is.own.none (sym less.whole ∙ e);
      };
      unread = record {
        no_own = λ e. absurd (true≢false (sym less.busy ∙ e));
        no_again = λ e. is.unread.no_again (implied _ _ less.before e);
        no_lists = λ e. is.unread.no_lists (implied _ _ less.before e);
        no_others = λ e. is.unread.no_others (implied _ _ less.before e);
        no_states = λ e. is.unread.no_states (implied _ _ less.before e);
        no_effect = λ e. is.unread.no_effect (implied _ _ less.without e);
      };
      at = step.at;
      current = step.current;
      right = record {
        same_again = λ e. is.right.same_again (implied _ _ less.settled e);
        whole = λ e. is.right.whole (implied _ _ less.again e);
        same_player = λ e. is.right.same_player (implied _ _ less.settled e);
        same_state = λ e. is.right.same_state (implied _ _ less.settled e);
        has_its_bit = λ e. is.right.has_its_bit (implied _ _ less.settled e);
      };
      resolved = record { is_outcome = λ e. is.resolved.is_outcome (implied _ _ less.settled e) };
      giving_up = step.giving_up;
      committed = record {
        item = λ e. is.committed.item (implied _ _ less.committed e);
        owed = subst (OwesRight now) (sym step.owes) tt;
        linked = λ storing. absurd (false≢true (sym less.not_storing ∙ storing));
      };
    }

-- ---- the next visit

-- what a point is where nothing inner is held and reading goes on
pub record IsBetween (F : Fixed) (point : Point) : Type 0 where
  pub stage : stage_of point ≡ AtReading
  pub leaves : (wanted : List ℕ) → leaves_held point wanted ≡ wanted
  pub inner : inner_held F point ≡ []
  pub absent : (node : ℕ) → is_present point node ≡ false
  pub part : (p : ℕ) → part_of point p ≡ []
  pub owes : stores_owed point ≡ []

pub sensing_between : (F : Fixed) (ids : List ℕ) → IsBetween F (sensing ids)
sensing_between F [] = record { stage = refl; leaves = λ wanted. refl; inner = refl; absent = λ node. refl; part = λ p. refl; owes = refl }
sensing_between F (id ∷ ids) = record { stage = refl; leaves = λ wanted. refl; inner = refl; absent = λ node. refl; part = λ p. refl; owes = refl }

pub visiting_between : (F : Fixed) (view : View) (plan : List ℕ) → IsBetween F (visiting F view plan)
visiting_between F view [] = sensing_between F (things_in F (region_in F view.cmd view.own))
visiting_between F view (node ∷ plan) =
    elim (cases_Bool (is_leaf F node)) [
      | inl leaf ↦ rw leaf (record {
        stage = refl;
        leaves = λ wanted. refl;
        inner = cond-true (is_leaf F node) [] (node ∷ []) leaf;
        absent = λ _. refl;
        part = λ p. refl;
        owes = refl;
      })
      | inr inner ↦ rw inner (record { stage = refl; leaves = λ wanted. refl; inner = refl; absent = λ _. refl; part = λ p. refl; owes = refl })
    ]

-- what was read holds at the next visit
pub at_sensing : (F : Fixed) (view : View) (ids : List ℕ)
    → HasRead F (region_in F view.cmd view.own) view.cmd.slot view.lists view.others [] [] → HasSensed F (region_in F view.cmd view.own) view.states ids
    → IsAt F view.cmd view.own view.wanted view.again view.lists view.others view.states view.effect (sensing ids)
at_sensing F view [] read sensed = record { read = read; sensed = sensed }
at_sensing F view (id ∷ ids) read sensed = record { read = read; sensed = sensed }

pub at_visiting : (F : Fixed) (view : View) (plan : List ℕ) → HasRead F (region_in F view.cmd view.own) view.cmd.slot view.lists view.others plan []
    → IsAt F view.cmd view.own view.wanted view.again view.lists view.others view.states view.effect (visiting F view plan)
at_visiting F view [] read = at_sensing F view (things_in F (region_in F view.cmd view.own)) read (record {
  things = λ id thing. thing;
  loaded = λ id thing none. absurd (true≢false (sym thing ∙ none));
})
at_visiting F view (node ∷ plan) read =
    elim (cases_Bool (is_leaf F node)) [
      | inl leaf ↦ rw leaf read
      | inr inner ↦ rw inner (record { read = read; planned = read.planned node (or_left (node == node) (has plan node) (eq-eqb node node refl)); inner = inner })
    ]

-- list words stay current where a visit ends
pub current_between : (F : Fixed) (links : ℕ → ℕ) (body : ℕ → ℕ → ℕ) (point new : Point) (wanted : List ℕ) (lists : List ListRead)
    → is_settled (stage_of point) ≡ true → IsBetween F new → IsCurrent links body point wanted lists → IsCurrent links body new wanted lists
current_between F links body point new wanted lists settled between is = record {
  same_list = λ _ node word read held. is.same_list settled node word read (elim (or_cases (has wanted node) (is_present new node) held) [
    | inl leaf ↦ or_left _ _ leaf
    | inr present ↦ absurd (false≢true (sym (between.absent node) ∙ present))
  ]);
  same_part = λ p k below. let none = between.part p in absurd (omega (arith, ap length none, below));
}

-- a point whose stage isn't busy is idle
pub idle_point : (point : Point) → is_busy (stage_of point) ≡ false → point ≡ Idle
idle_point Idle e = refl
idle_point Owning e = absurd (true≢false e)
idle_point (Taking got rest) e = absurd (true≢false e)
idle_point Checking e = absurd (true≢false e)
idle_point (Entering node plan) e = absurd (true≢false e)
idle_point (Entered node plan) e = absurd (true≢false e)
idle_point (Loading node part players plan) e = absurd (true≢false e)
idle_point (Leaving node plan) e = absurd (true≢false e)
idle_point (Sensing ids) e = absurd (true≢false e)
idle_point Resolving e = absurd (true≢false e)
idle_point (Claiming got rest) e = absurd (true≢false e)
idle_point (Storing nodes stores) e = absurd (true≢false e)
idle_point (Releasing nodes) e = absurd (true≢false e)
idle_point (Returning leaves) e = absurd (true≢false e)
idle_point (Yielding nodes leaves) e = absurd (true≢false e)

-- no command is in hand where the test finds none
pub none_in_hand : (given : Option Command) → is_some given ≡ false → given ≡ None
none_in_hand None e = refl
none_in_hand (Some c) e = absurd (true≢false e)
