-- What comes next of a hand, where it is known: what a step asks of it, and the hand after it.
use Rattle.std.proofs.Common.{◌≡◌, ℕ, true, sym, ap, ◌∙◌, Option, Some, None, is_some}
use Rattle.entity_recs.specs.declared.effect.Effect.{Effect}
use Rattle.core_steps.specs.Nodes.{Fixed}
use Rattle.core_steps.specs.Points.{Point}
use Rattle.core_steps.specs.Reads.{View}
use Rattle.core_steps.specs.Machine.{Next, index_of}
use Rattle.core_seats.specs.Going.{word_left}
use Rattle.core_seats.specs.Nexts.{next_point, the_next}
use Rattle.ruled_words.specs.Passes.{PassView, next_of_pass, pass_after, word_after}
use Rattle.ruled_words.specs.Hands.{IsPlain, pass_keeping}
use Rattle.ruled_words.proofs.LoadedWords.{plain_is}

-- what comes next of a plain hand with an effect that it keeps
pub keeping_next : (F : Fixed) (p : PassView) (e : Effect) (point : Point) → IsPlain p → p.view.point ≡ point → next_of_pass F (pass_keeping p e) ≡ next_point F p.view None (Some e) point
keeping_next F p e point plain at = ap (λ (q : PassView). next_of_pass F (pass_keeping q e)) (plain_is p plain) ∙ ap (λ (q : Point). next_point F p.view None (Some e) q) at

-- ---- what a step asks, of what comes next

module _ (F : Fixed) (p : PassView) (next : Next) (is : next_of_pass F p ≡ Some next) where
  pub comes_next : is_some (next_of_pass F p) ≡ true
  comes_next = ap (λ (o : Option Next). is_some o) is

  pub index_next : (view : View) → index_of view next ≡ index_of view (the_next (next_of_pass F p))
  index_next view = sym (ap (λ (o : Option Next). index_of view (the_next o)) is)

  pub left_next : (found : ℕ) → word_after F p found ≡ word_left F p.number p.view next found
  left_next found = ap (λ (o : Option Next). word_left F p.number p.view (the_next o) found) is

  pub after_next_is : (found : ℕ) → pass_after F (the_next (next_of_pass F p)) found p ≡ pass_after F next found p
  after_next_is found = ap (λ (o : Option Next). pass_after F (the_next o) found p) is
