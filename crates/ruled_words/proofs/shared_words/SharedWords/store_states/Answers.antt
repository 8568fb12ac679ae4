use Rattle.std.proofs.Common.{length, arith}
use Rattle.ruled_words.specs.Passes.{fixed_in}
use Rattle.ruled_words.specs.Writing.{owed_beyond}
use Rattle.ruled_words.proofs.StoresMade.{stored_none, state_next, state_made, states_made}
use Rattle.ruled_words.proofs.shared_words.SharedWords.store_states.Goals as goal

pub loop-new_state-init : goal.loop-new_state-init
loop-new_state-init g c = stored_none _ _ _ _ _ c.requires.own c.requires.next

pub store_state-requires-clause-own : goal.store_state-requires-clause-own
store_state-requires-clause-own g c κs within = c.loop-new_state.invariant.own

pub store_state-requires-clause-next : goal.store_state-requires-clause-next
store_state-requires-clause-next g c κs within =
    state_next (fixed_in g.A.Action.meaning c.args.self.now) (length c.args.self.now.rooms) c.args.self.now.table c.args.hand.now (owed_beyond (length c.args.states.now) c.args.hand.now.view.point) c.loop-new_state.hand c.loop-new_state.new_state-index c.args.states.now c.loop-new_state.invariant _ c.loop-new_state-test.true

pub loop-new_state-preserved : goal.loop-new_state-preserved
loop-new_state-preserved g c =
    state_made (fixed_in g.A.Action.meaning c.args.self.now) (length c.args.self.now.rooms) c.args.self.now.table c.args.hand.now (owed_beyond (length c.args.states.now) c.args.hand.now.view.point) c.loop-new_state.hand c.loop-new_state.new_state-index c.args.states.now c.loop-new_state.invariant (record { id = 0; state = 0 }) c.loop-new_state-test.true c.store_state.new.hand c.store_state.ensures.own c.store_state.ensures.view

pub returns-clause-own : goal.returns-clause-own
returns-clause-own g c = c.loop-new_state.invariant.own

pub returns-clause-view : goal.returns-clause-view
returns-clause-view g c =
    states_made (fixed_in g.A.Action.meaning c.args.self.now) (length c.args.self.now.rooms) c.args.self.now.table c.args.hand.now (owed_beyond (length c.args.states.now) c.args.hand.now.view.point) c.loop-new_state.hand c.loop-new_state.new_state-index c.args.states.now c.loop-new_state.invariant (omega (arith, c.loop-new_state-test.false))
