-- A sound view has what its steps need to lower how many are left.
use Rattle.std.proofs.Common.{◌≡◌, ℕ, List, ap, subst}
use Rattle.core_steps.specs.Nodes.{Fixed}
use Rattle.core_steps.specs.Points.{Point, Checking, Loading, stage_of, is_owning, is_whole}
use Rattle.core_steps.specs.Reads.{View}
use Rattle.core_steps.specs.Stands.{IsAt}
use Rattle.core_seats.specs.Sound.{IsSound}
use Rattle.core_progress.specs.StepsLeft.{SoundViewsCount}

module _ (F : Fixed) (view : View) (sound : IsSound F view) where
  abbrev At : Point → Type 0
  At point = IsAt F view.cmd view.own view.wanted view.again view.lists view.others view.states view.effect point

  checking : view.point ≡ Checking → At Checking
  checking at = subst At at sound.at

  loading : (node : ℕ) (part players plan : List ℕ) → view.point ≡ Loading node part players plan → At (Loading node part players plan)
  loading node part players plan at = subst At at sound.at

pub sound_views_count : SoundViewsCount
sound_views_count F effect view sound kept = record {
  depth = sound.depth;
  own = λ at. sound.own_part (ap (λ (q : Point). is_owning (stage_of q)) at);
  again = λ at. (checking F view sound at).part;
  part = λ node part players plan at. (loading F view sound node part players plan at).load.partly;
  wanted = λ nodes at. sound.next.some_wanted (ap (λ (q : Point). is_whole (stage_of q)) at);
  kept = kept;
}
