-- The two kinds of commit: with write nodes held, and without any.
use Rattle.std.proofs.Common.{◌≡◌, ℕ, true, List, [], ◌∷◌, ◌++◌, refl, sym, ap, ◌∙◌, subst, append-nil}
use Rattle.entity_recs.specs.declared.effect.Effect.{Effect}
use Rattle.entity_recs.specs.Worlds.{World}
use Rattle.entity_recs.specs.Histories.{Item, outcome, apply}
use Rattle.core_steps.specs.Nodes.{Fixed, write_nodes}
use Rattle.core_steps.specs.Points.{Point, Resolving, Claiming, AtReading, AtClaiming, AtStoring, stage_of, is_settled}
use Rattle.core_steps.specs.Points.{is_read_again}
use Rattle.core_steps.specs.Reads.{record_read}
use Rattle.core_steps.specs.Held.{inner_held, holds, held_word}
use Rattle.core_steps.specs.Steps.{Core, item_at, commit}
use Rattle.core_steps.specs.Stands.{IsStart, IsLawful, Stands}
use Rattle.core_steps.specs.Laws.{CommittedHeldStands, CommittedFreeStands}
use Rattle.core_steps.proofs.Giving.{seat_at}
use Rattle.core_steps.proofs.Drops.{word_at_stages, word_of_leaf}
use Rattle.core_steps.proofs.Resolved.{loaded_is_outcome}
use Rattle.core_steps.proofs.Committing.{IsCommitting, committed_stands}

-- the commit of an effect that is the outcome
committed_as : (F : Fixed) (core : Core) (history : List Item) (now : World) (i : ℕ) (nodes : List ℕ) (e : Effect) → IsLawful F → IsStart F → e ≡ outcome F.effect_of now (core.view i).cmd
    → IsCommitting F core now i nodes → Stands F core history now
    → Stands F (commit F core i e nodes) (history ++ item_at core.words.commits (core.view i) e ∷ []) (apply F.effect_of now (core.view i).cmd)
committed_as F core history now i nodes e lawful start right step is =
    subst (λ (f : Effect). Stands F (commit F core i f nodes) (history ++ item_at core.words.commits (core.view i) f ∷ []) (apply F.effect_of now (core.view i).cmd)) (sym right)
    (committed_stands F core history now i nodes lawful start is step)

pub committed_held_stands : CommittedHeldStands
committed_held_stands F core history now i nodes e lawful start at_point effect is =
    let view = core.view i in
    let here = seat_at F core history now i (Claiming nodes []) is at_point in
    let settled : is_settled (stage_of view.point) ≡ true = ap (λ (p : Point). is_settled (stage_of p)) at_point in
    let right : e ≡ outcome F.effect_of now view.cmd = (is.seats i).resolved.is_outcome settled e effect in
    let same : here.at.claim.e ≡ e = let both = sym here.at.claim.is ∙ effect in cc in
    committed_as F core history now i nodes e lawful start right (record {
      settled = settled;
      read = ap (λ (p : Point). is_read_again (stage_of p)) at_point;
      nodes_are = sym (append-nil nodes) ∙ here.at.claim.nodes ∙ ap (write_nodes F (record_read view.cmd.slot view.again)) (same ∙ right);
      inner = ap (inner_held F) at_point;
      words = λ v _. ap (λ (p : Point). held_word F i (stage_of p) view.wanted v) at_point ∙ word_at_stages F i AtClaiming AtStoring view.wanted v refl;
    }) is

pub committed_free_stands : CommittedFreeStands
committed_free_stands F core history now i e lawful start at_point effect none is =
    let view = core.view i in
    let here = seat_at F core history now i Resolving is at_point in
    let right : e ≡ outcome F.effect_of now view.cmd = effect ∙ loaded_is_outcome F core history now i lawful start is at_point in
    committed_as F core history now i [] e lawful start right (record {
      settled = ap (λ (p : Point). is_settled (stage_of p)) at_point;
      read = ap (λ (p : Point). is_read_again (stage_of p)) at_point;
      nodes_are = sym none ∙ ap (write_nodes F (record_read view.cmd.slot view.again)) right;
      inner = ap (inner_held F) at_point;
      words = λ v held. ap (λ (p : Point). held_word F i (stage_of p) view.wanted v) at_point
          ∙ word_of_leaf F i AtReading AtStoring view.wanted v (here.holding.leaves_are_leaves v (ap (λ (p : Point). holds F p view.wanted v) (sym at_point) ∙ held));
    }) is
