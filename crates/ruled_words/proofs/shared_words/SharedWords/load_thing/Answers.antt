use Rattle.std.proofs.Common.{sym, ap, ◌∙◌, ◌+◌, length, ℕ}
use Rattle.core_steps.specs.declared.sizes.TheConstants.{FIRST_STATE_WORD}
use Rattle.ruled_words.specs.Passes.{fixed_in, next_of_pass}
use Rattle.ruled_words.proofs.Gives.{states_next, state_there}
use Rattle.ruled_words.proofs.StateSteps.{thing_next, thing_loaded}
use Rattle.ruled_words.proofs.shared_words.SharedWords.load_thing.Goals as goal

pub step_hand-state-requires-clause-comes : goal.step_hand-state-requires-clause-comes
step_hand-state-requires-clause-comes g c κs within =
    let F = fixed_in g.A.Action.meaning c.args.self.now in
    state_there (next_of_pass F c.args.hand.now) c.args.r.now.id (thing_next F c.args.hand.now c.args.r.now.id c.requires.own.plain c.requires.at)

pub step_hand-state-requires-clause-index : goal.step_hand-state-requires-clause-index
step_hand-state-requires-clause-index g c κs within =
    let F = fixed_in g.A.Action.meaning c.args.self.now in
    let next = thing_next F c.args.hand.now c.args.r.now.id c.requires.own.plain c.requires.at in
    ap (λ (n : ℕ). n + c.from-2.result) c.from.ensures ∙ ap (λ (n : ℕ). FIRST_STATE_WORD + n) c.from-2.ensures
    ∙ sym (states_next F (length c.args.self.now.rooms) c.args.self.now.table c.args.hand.now c.args.r.now.id c.requires.own.pass next).index

pub step_hand-state-requires-clause-left : goal.step_hand-state-requires-clause-left
step_hand-state-requires-clause-left g c κs within =
    let F = fixed_in g.A.Action.meaning c.args.self.now in
    let next = thing_next F c.args.hand.now c.args.r.now.id c.requires.own.plain c.requires.at in
    (states_next F (length c.args.self.now.rooms) c.args.self.now.table c.args.hand.now c.args.r.now.id c.requires.own.pass next).left

pub returns-clause-view : goal.returns-clause-view
returns-clause-view g c =
    thing_loaded (fixed_in g.A.Action.meaning c.args.self.now) c.args.hand.now c.args.r.now.id c.requires.own.plain c.requires.at c.step_hand-state.new.hand c.step_hand-state.result c.step_hand-state.ensures.pass
