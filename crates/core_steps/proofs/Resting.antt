-- Seats without a command in hand.
use Rattle.std.proofs.Common.{ℕ, List, [], refl, arith}
use Rattle.std.proofs.lemmas.Bool.{false≢true}
use Rattle.entity_recs.specs.Worlds.{World}
use Rattle.entity_recs.specs.Histories.{Item}
use Rattle.core_steps.specs.Cells.{Words}
use Rattle.core_steps.specs.Nodes.{Fixed}
use Rattle.core_steps.specs.Points.{AtRest}
use Rattle.core_steps.specs.Reads.{View, without_command}
use Rattle.core_steps.specs.Stands.{IsCounted, IsHolding, SeatStands, SeatsApart}
use Rattle.core_steps.proofs.Unyielding.{not_giving_up}

nothing_is_held : (F : Fixed) → IsHolding F [] [] []
nothing_is_held F = record {
  wanted_once = tt;
  wanted_are_leaves = λ node held. absurd (false≢true held);
  leaves_once = tt;
  leaves_are_leaves = λ node held. absurd (false≢true held);
  inner_once = tt;
  inner_are_inner = λ node held. absurd (false≢true held);
}

-- a seat stands without a command in hand
pub rests : (F : Fixed) (words : Words) (history : List Item) (now : World) (i : ℕ) (view : View) → IsCounted words.commits view.seen view.room view.log AtRest
    → SeatStands F words history now i (without_command view)
rests F words history now i view counted = record {
  named = λ node held. absurd (false≢true held);
  holding = nothing_is_held F;
  counted = counted;
  hand = λ busy. absurd (false≢true busy);
  own = record {
    matches = λ open' k. absurd (false≢true open');
    part = λ owning. absurd (false≢true owning);
    whole = λ whole. absurd (false≢true whole);
    leaves = λ whole. absurd (false≢true whole);
    none = λ _. refl;
  };
  unread = record { no_own = λ _. refl; no_again = λ _. refl; no_lists = λ _. refl; no_others = λ _. refl; no_states = λ _. refl; no_effect = λ _. refl };
  at = tt;
  current = record { same_list = λ settled. absurd (false≢true settled); same_part = λ p k below. absurd (omega arith) };
  right = record {
    same_again = λ settled. absurd (false≢true settled);
    whole = λ read. absurd (false≢true read);
    same_player = λ settled. absurd (false≢true settled);
    same_state = λ settled. absurd (false≢true settled);
    has_its_bit = λ settled. absurd (false≢true settled);
  };
  resolved = record { is_outcome = λ settled. absurd (false≢true settled) };
  giving_up = not_giving_up refl;
  committed = record { item = λ done. absurd (false≢true done); owed = tt; linked = λ storing. absurd (false≢true storing) };
}

-- a seat without a command in hand is apart from every other
pub rest_apart : (F : Fixed) (view other : View) → SeatsApart F (without_command view) other
rest_apart F view other = record {
  nodes = λ node held. absurd (false≢true held);
  slots = λ busy. absurd (false≢true busy);
  cells = λ cell x owed. cc;
}
