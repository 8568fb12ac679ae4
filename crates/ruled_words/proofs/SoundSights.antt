-- What the rule says of a view.
use Rattle.std.proofs.Common.{◌≡◌, ℕ, List, length, subst}
use mathlib.Core.Option as maybe
use lib.ListN.{get_elem?}
use Rattle.atomic_table.specs.Table.{State}
use Rattle.core_steps.specs.Nodes.{Fixed}
use Rattle.core_seats.specs.Sound.{IsSound}
use Rattle.core_seats.proofs.Sounding.{sound_here}
use Rattle.ruled_words.specs.Sights.{SightView}
use Rattle.ruled_words.specs.Rule.{at_rest, IsRuled}
use Rattle.ruled_words.specs.Plays.{IsSoundSight}
use Rattle.ruled_words.proofs.Goes.{goes_in_table}

module _ (F : Fixed) (rooms : List ℕ) (s : State (Unit {0}) SightView) (r : IsRuled F rooms s) (i : ℕ) (sight : SightView) (at : get_elem? s.views i ≡ maybe.some sight) where
  pub sound_sight : IsSoundSight F (length rooms) sight
  sound_sight = record {
    sound = subst (IsSound F) (r.seats.view i sight at) (sound_here F (at_rest r.core) r.history r.now i r.lawful r.start r.stands r.depth);
    in_table = λ given quits next may. goes_in_table F rooms s r i sight at given quits next may;
  }
