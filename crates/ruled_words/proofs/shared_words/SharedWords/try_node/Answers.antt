use Rattle.std.proofs.Common.{sym, ap, subst, ◌∙◌, length}
use Rattle.core_seats.specs.Nexts.{the_next}
use Rattle.ruled_words.specs.Passes.{PassView, fixed_in, next_of_pass}
use Rattle.ruled_words.specs.Straight.{IsTriedOn}
use Rattle.ruled_words.proofs.Takes.{takes_next, taken_next, taken_there, taken_index}
use Rattle.ruled_words.proofs.LoadedWords.{plain_after}
use Rattle.ruled_words.proofs.RefusedTakes.{found_free, found_busy, served_without_refusal, was_refused}
use Rattle.ruled_words.proofs.TriedTakes.{tried_on, found_noted}
use Rattle.ruled_words.proofs.shared_words.SharedWords.try_node.Goals as goal

pub step_hand-found-requires-clause-comes : goal.step_hand-found-requires-clause-comes
step_hand-found-requires-clause-comes g c κs within = taken_there _ _ c.requires.next

pub step_hand-found-requires-clause-index : goal.step_hand-found-requires-clause-index
step_hand-found-requires-clause-index g c κs within =
    c.from.ensures ∙ c.node_word.ensures ∙ sym (taken_index (fixed_in g.A.Action.meaning c.args.self.now) c.args.hand.now c.args.node _ (takes_next _ _ _ _ _ c.requires.own.pass c.requires.next))

pub returns-clause-tried : goal.returns-clause-tried
returns-clause-tried g c =
    let F = fixed_in g.A.Action.meaning c.args.self.now in
    subst (IsTriedOn c.args.hand.now.tally) (sym (ap (λ (q : PassView). q.tally) c.step_hand-found.ensures.pass))
    (tried_on (the_next (next_of_pass F c.args.hand.now)) c.args.node c.step_hand-found.result _ c.args.hand.now.tally (taken_next _ _ c.requires.next))

pub returns-clause-refusals : goal.returns-clause-refusals
returns-clause-refusals g c are =
    let F = fixed_in g.A.Action.meaning c.args.self.now in
    found_noted F c.note_refused.new.refusals c.args.hand.now.view c.step_hand-found.new.hand.view (the_next (next_of_pass F c.args.hand.now)) c.args.node c.step_hand-found.result (taken_next _ _ c.requires.next)
    (ap (λ (q : PassView). q.view) c.step_hand-found.ensures.pass) (c.note_refused.ensures.noted c.args.hand.now.view c.requires.held.own_is c.requires.held.wanted_is are)

pub returns-clause-served : goal.returns-clause-served
returns-clause-served g c served =
    let F = fixed_in g.A.Action.meaning c.args.self.now in
    let next = the_next (next_of_pass F c.args.hand.now) in
    served_without_refusal F (length c.args.self.now.rooms) c.args.hand.now c.step_hand-found.new.hand next c.args.node c.step_hand-found.result _ (taken_next _ _ c.requires.next)
    (c.step_hand-found.ensures.pass ∙ plain_after F c.args.hand.now next c.step_hand-found.result c.requires.own.plain)
    (found_free c.note_refused.result c.step_hand-found.result c.note_refused.ensures.served served)

pub returns-clause-refused : goal.returns-clause-refused
returns-clause-refused g c refused =
    let F = fixed_in g.A.Action.meaning c.args.self.now in
    let next = the_next (next_of_pass F c.args.hand.now) in
    was_refused F (length c.args.self.now.rooms) c.args.hand.now c.step_hand-found.new.hand next c.args.node c.step_hand-found.result _ (taken_next _ _ c.requires.next)
    (c.step_hand-found.ensures.pass ∙ plain_after F c.args.hand.now next c.step_hand-found.result c.requires.own.plain)
    (found_busy c.note_refused.result c.step_hand-found.result c.note_refused.ensures.served refused) c.step_hand-found.ensures.node
