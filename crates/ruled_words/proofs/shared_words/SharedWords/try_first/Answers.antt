use Rattle.std.proofs.Common.{◌∙◌, ◌+◌, ◌==◌, ℕ, if◌then◌else◌, suc, ap, sym, subst, length, refl, Option}
use Rattle.core_steps.specs.declared.sizes.TheConstants.{NODE_HOLDERS}
use Rattle.core_steps.specs.Steps.{view_after_claim}
use Rattle.core_steps.specs.Machine.{Next, ClaimNode}
use Rattle.core_seats.specs.Nexts.{the_next}
use Rattle.ruled_words.specs.Holders.{IsFoundNode}
use Rattle.ruled_words.specs.Passes.{PassView, fixed_in}
use Rattle.ruled_words.specs.Hands.{pass_keeping}
use Rattle.ruled_words.proofs.Owns.{resolved_own}
use Rattle.ruled_words.proofs.PlainHands.{comes_next, index_next}
use Rattle.ruled_words.proofs.RefusedTakes.{found_free, found_busy, served_without_refusal, was_refused}
use Rattle.ruled_words.proofs.Claims.{dropped_own, first_is, first_left, first_made, first_tried, first_view, refusals_found}
use Rattle.ruled_words.proofs.shared_words.SharedWords.try_first.Goals as goal

pub step_resolved-found-requires-clause-own : goal.step_resolved-found-requires-clause-own
step_resolved-found-requires-clause-own g c κs within = resolved_own (fixed_in g.A.Action.meaning c.args.self.now) (length c.args.self.now.rooms) c.args.self.now.table c.args.hand.now c.args.effect.now c.requires.own.pass c.requires.at c.requires.effect

pub step_resolved-found-requires-clause-comes : goal.step_resolved-found-requires-clause-comes
step_resolved-found-requires-clause-comes g c κs within = comes_next (fixed_in g.A.Action.meaning c.args.self.now) (pass_keeping c.args.hand.now c.args.effect.now) _ (first_is (fixed_in g.A.Action.meaning c.args.self.now) c.args.hand.now c.args.effect.now c.args.node c.requires.own.plain c.requires.at c.requires.next)

pub step_resolved-found-requires-clause-index : goal.step_resolved-found-requires-clause-index
step_resolved-found-requires-clause-index g c κs within =
    c.from-word.ensures ∙ c.node_word.ensures
    ∙ index_next (fixed_in g.A.Action.meaning c.args.self.now) (pass_keeping c.args.hand.now c.args.effect.now) _ (first_is (fixed_in g.A.Action.meaning c.args.self.now) c.args.hand.now c.args.effect.now c.args.node c.requires.own.plain c.requires.at c.requires.next) c.args.hand.now.view

pub step_resolved-found-requires-clause-left : goal.step_resolved-found-requires-clause-left
step_resolved-found-requires-clause-left g c κs within found =
    first_left (fixed_in g.A.Action.meaning c.args.self.now) c.args.hand.now c.args.effect.now c.args.node c.requires.own.plain c.requires.at c.requires.next found
    ∙ ap (λ (w : ℕ). if found == 0 then w else found) (ap (λ (q : PassView). suc (q.number + NODE_HOLDERS)) (sym c.hand.view_is) ∙ sym c.writing_word-new.ensures)

pub returns-clause-own : goal.returns-clause-own
returns-clause-own g c = record {
  pass = dropped_own (fixed_in g.A.Action.meaning c.args.self.now) (length c.args.self.now.rooms) c.args.self.now.table c.step_resolved-found.new.hand _ c.step_resolved-found.ensures.own c.step_resolved-found.ensures.plain.effect;
  plain = c.step_resolved-found.ensures.plain;
}

pub returns-clause-tried : goal.returns-clause-tried
returns-clause-tried g c =
    first_tried (fixed_in g.A.Action.meaning c.args.self.now) c.args.hand.now c.args.effect.now c.args.node c.requires.own.plain c.requires.at c.requires.next c.step_resolved-found.new.hand c.step_resolved-found.result _ c.note_refused.ensures.served c.step_resolved-found.ensures.plain c.step_resolved-found.ensures.pass

pub returns-clause-refusals : goal.returns-clause-refusals
returns-clause-refusals g c are =
    refusals_found c.note_refused.new.refusals c.args.hand.now.view (view_after_claim (fixed_in g.A.Action.meaning c.args.self.now) c.args.effect.now c.args.node c.args.hand.now.view) c.step_resolved-found.new.hand.view c.args.node c.step_resolved-found.result
    (first_view (fixed_in g.A.Action.meaning c.args.self.now) c.args.hand.now c.args.effect.now c.args.node c.requires.own.plain c.requires.at c.requires.next c.step_resolved-found.new.hand c.step_resolved-found.result c.step_resolved-found.ensures.plain c.step_resolved-found.ensures.pass)
    refl refl (c.note_refused.ensures.noted c.args.hand.now.view c.requires.held.own_is c.requires.held.wanted_is are)

pub returns-clause-served : goal.returns-clause-served
returns-clause-served g c served =
    let F = fixed_in g.A.Action.meaning c.args.self.now in
    served_without_refusal F (length c.args.self.now.rooms) c.args.hand.now c.step_resolved-found.new.hand (ClaimNode c.args.effect.now c.args.node) c.args.node c.step_resolved-found.result _ refl
    (first_made F c.args.hand.now c.args.effect.now c.args.node c.requires.own.plain c.requires.at c.requires.next c.step_resolved-found.new.hand c.step_resolved-found.result c.step_resolved-found.ensures.plain c.step_resolved-found.ensures.pass)
    (found_free c.note_refused.result c.step_resolved-found.result c.note_refused.ensures.served served)

pub returns-clause-refused : goal.returns-clause-refused
returns-clause-refused g c refused =
    let F = fixed_in g.A.Action.meaning c.args.self.now in
    was_refused F (length c.args.self.now.rooms) c.args.hand.now c.step_resolved-found.new.hand (ClaimNode c.args.effect.now c.args.node) c.args.node c.step_resolved-found.result _ refl
    (first_made F c.args.hand.now c.args.effect.now c.args.node c.requires.own.plain c.requires.at c.requires.next c.step_resolved-found.new.hand c.step_resolved-found.result c.step_resolved-found.ensures.plain c.step_resolved-found.ensures.pass)
    (found_busy c.note_refused.result c.step_resolved-found.result c.note_refused.ensures.served refused)
    (subst (λ (o : Option Next). IsFoundNode F (length c.args.self.now.rooms) c.args.hand.now.number c.args.hand.now.view (the_next o) c.step_resolved-found.result)
    (first_is F c.args.hand.now c.args.effect.now c.args.node c.requires.own.plain c.requires.at c.requires.next) c.step_resolved-found.ensures.node)
