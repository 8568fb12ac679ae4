-- The outcome of a move, out of its parts.
use Rattle.std.proofs.Common.{◌≡◌, ℕ, List, ap, ◌∙◌}
use Rattle.entity_recs.specs.declared.rec.Rec.{Rec}
use Rattle.entity_recs.specs.declared.effect.Effect.{Effect}
use Rattle.entity_recs.specs.declared.effect.NewState.{NewState}
use Rattle.entity_recs.specs.Commands.{Command}
use Rattle.arena_map.specs.Maps.{MapView}
use Rattle.trigger_rules.specs.Touching.{touched}
use Rattle.arena_outcomes.specs.Outcomes.{effect_of, moved_among, outcome_in}

-- the effect with these parts
abbrev pub effect_with : Rec → List NewState → List ℕ → Effect
effect_with me states got = record { me = me; states = states; reply = record { origin = me.origin; got = got } }

-- what the walk after the move gives is the outcome
pub effect_by_parts : (map : MapView) (me : Rec) (near : List Rec) (c : Command) (moved after : Rec) (states : List NewState) (got : List ℕ) → moved ≡ moved_among map me near c
    → after ≡ (touched map c.frame moved near).me → states ≡ (touched map c.frame moved near).states → got ≡ (touched map c.frame moved near).got
    → effect_with after states got ≡ outcome_in map me near c
unfolding outcome_in
effect_by_parts map me near c moved after states got moved_is after_is states_are got_are =
    ap (λ (r : Rec). effect_with r states got) after_is
    ∙ ap (λ (s : List NewState). effect_with (touched map c.frame moved near).me s got) states_are
    ∙ ap (λ (ids : List ℕ). effect_with (touched map c.frame moved near).me (touched map c.frame moved near).states ids) got_are
    ∙ ap (λ (r : Rec). effect_of (touched map c.frame r near)) moved_is
