-- The words and the last seat of a table that is closed.
use Rattle.std.proofs.Common.{◌≡◌, ℕ, ◌<◌, List, length, slice_index, sym, ap, ◌∙◌, subst}
use Rattle.core_steps.specs.declared.sizes.TheConstants.{TABLE_WORDS}
use mathlib.Core.Option.{some}
use lib.ListN.{get_elem?}
use Rattle.atomic_table.specs.Table.{Final, Seen}
use Rattle.core_steps.specs.Nodes.{Fixed}
use Rattle.core_steps.specs.Stands.{IsStart}
use Rattle.ruled_words.specs.Sights.{AreRefusalsServed, SightView}
use Rattle.ruled_words.specs.Going.{IsAtRest}
use Rattle.ruled_words.specs.Rule.{IsRuled}
use Rattle.ruled_words.specs.Ends.{AreEndedBelow, Closes}
use Rattle.ruled_words.proofs.Closing.{refusals, closes_with, others_ended, made_is}
use Rattle.ruled_words.proofs.TableCopies.{word_found}

module _ (F : Fixed) (rooms : List ℕ) (id : ℕ) (seat sight : SightView) (words : List ℕ) (homes : List (Unit {0})) (at_end : Final (Seen (IsRuled F rooms) id seat) words homes) (same : seat ≡ sight)
    (rests : IsAtRest sight.view) (first : sight.number ≡ 0) (ended : AreEndedBelow (length rooms) sight.view) where
  final : Final (Seen (IsRuled F rooms) id sight) words homes
  final = subst (λ (s : SightView). Final (Seen (IsRuled F rooms) id s) words homes) same at_end

  ruled : IsRuled F rooms final.0
  ruled = final.1.0

  at_first : get_elem? final.0.views 0 ≡ some sight
  at_first = subst (λ (n : ℕ). get_elem? final.0.views n ≡ some sight) (sym (ruled.seats.number id sight final.1.1 rests.lives) ∙ first) final.1.1

  pub made_at_end : sight.view.made ≡ length rooms
  made_at_end = made_is F rooms final.0 ruled sight at_first ended

  pub start_at_end : IsStart F
  start_at_end = ruled.start

  pub closes_at_end : (copy : List ℕ) → ((k : ℕ) → k < TABLE_WORDS → get_elem? words k ≡ some (slice_index copy k)) → Closes F copy sight.view
  closes_at_end copy each =
      closes_with F rooms final.0 ruled sight at_first rests (others_ended F rooms final.0 ruled sight at_first ended) copy
      (λ k below. sym (ap (λ (ws : List ℕ). slice_index ws k) final.2 ∙ word_found words k (slice_index copy k) (each k below)))

  pub refusals_at_end : AreRefusalsServed sight.tally
  refusals_at_end = refusals F rooms final.0 ruled sight at_first rests (others_ended F rooms final.0 ruled sight at_first ended)
