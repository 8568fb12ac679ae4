-- A seat that isn't giving up.
use Rattle.std.proofs.Common.{◌≡◌, ℕ, Bool, true, false, List, sym, ap, ◌∙◌, Option}
use Rattle.std.proofs.lemmas.Bool.{false≢true}
use Rattle.entity_recs.specs.declared.effect.NewState.{NewState}
use Rattle.entity_recs.specs.declared.effect.Effect.{Effect}
use Rattle.entity_recs.specs.Commands.{Command}
use Rattle.entity_recs.specs.Worlds.{World}
use Rattle.core_steps.specs.Nodes.{Fixed}
use Rattle.core_steps.specs.Points.{Point, Stage, AtYielding, stage_of}
use Rattle.core_steps.specs.Reads.{ListRead, PlayerRead}
use Rattle.core_steps.specs.Stands.{IsGivingUp}

-- the command is given up
abbrev pub is_yielding : Stage → Bool
is_yielding AtYielding = true
is_yielding _ = false

-- where the command isn't given up there is nothing to say
pub not_giving_up : {F : Fixed} {links : ℕ → ℕ} {now : World} {cmd : Command} {point : Point} {own wanted again : List ℕ} {lists : List ListRead} {others : List PlayerRead} {states : List NewState} {effect : Option Effect}
    → is_yielding (stage_of point) ≡ false → IsGivingUp F links now cmd point own wanted again lists others states effect
not_giving_up unyielding = record {
  few = λ nodes leaves e. absurd (false≢true (sym unyielding ∙ ap (λ (p : Point). is_yielding (stage_of p)) e));
  still = λ nodes e. absurd (false≢true (sym unyielding ∙ ap (λ (p : Point). is_yielding (stage_of p)) e));
}
