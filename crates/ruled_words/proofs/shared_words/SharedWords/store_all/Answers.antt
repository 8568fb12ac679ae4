use Rattle.std.proofs.Common.{length}
use Rattle.ruled_words.specs.Passes.{fixed_in}
use Rattle.ruled_words.proofs.StoresMade.{clear_comes, words_come, state_comes, states_come, link_comes, same_slot, all_stored}
use Rattle.ruled_words.proofs.shared_words.SharedWords.store_all.Goals as goal

pub clear_bit-requires-clause-own : goal.clear_bit-requires-clause-own
clear_bit-requires-clause-own g c κs within = c.requires.own

pub clear_bit-requires-clause-next : goal.clear_bit-requires-clause-next
clear_bit-requires-clause-next g c κs within =
    clear_comes (fixed_in g.A.Action.meaning c.args.self.now) (length c.args.self.now.rooms) c.args.self.now.table c.args.hand.now c.args.slot c.args.old c.args.new c.args.effect.now c.requires.own c.requires.node c.requires.next

pub store_words-requires-clause-own : goal.store_words-requires-clause-own
store_words-requires-clause-own g c κs within = c.clear_bit.ensures.own

pub store_words-requires-clause-next : goal.store_words-requires-clause-next
store_words-requires-clause-next g c κs within =
    words_come (fixed_in g.A.Action.meaning c.args.self.now) (length c.args.self.now.rooms) c.args.self.now.table c.args.hand.now c.args.slot c.args.old c.args.new c.args.effect.now c.requires.own c.requires.node c.requires.next c.clear_bit.new.hand c.clear_bit.ensures.own c.clear_bit.ensures.view c.encode.result c.encode.ensures

pub store_state-requires-clause-own : goal.store_state-requires-clause-own
store_state-requires-clause-own g c κs within = c.store_words.ensures.own

pub store_state-requires-clause-next : goal.store_state-requires-clause-next
store_state-requires-clause-next g c κs within =
    state_comes (fixed_in g.A.Action.meaning c.args.self.now) (length c.args.self.now.rooms) c.args.self.now.table c.args.hand.now c.args.slot c.args.old c.args.new c.args.effect.now c.requires.own c.requires.node c.requires.next c.clear_bit.new.hand c.clear_bit.ensures.own c.clear_bit.ensures.view c.encode.result c.encode.ensures c.store_words.new.hand c.store_words.ensures.own c.store_words.ensures.view c.from.result c.from.ensures

pub store_states-requires-clause-own : goal.store_states-requires-clause-own
store_states-requires-clause-own g c κs within = c.store_state.ensures.own

pub store_states-requires-clause-next : goal.store_states-requires-clause-next
store_states-requires-clause-next g c κs within =
    states_come (fixed_in g.A.Action.meaning c.args.self.now) (length c.args.self.now.rooms) c.args.self.now.table c.args.hand.now c.args.slot c.args.old c.args.new c.args.effect.now c.requires.own c.requires.node c.requires.next c.clear_bit.new.hand c.clear_bit.ensures.own c.clear_bit.ensures.view c.encode.result c.encode.ensures c.store_words.new.hand c.store_words.ensures.own c.store_words.ensures.view c.from.result c.from.ensures c.store_state.new.hand c.store_state.ensures.own c.store_state.ensures.view c.as_slice.result.now c.as_slice.ensures.value

pub set_bit-requires-clause-own : goal.set_bit-requires-clause-own
set_bit-requires-clause-own g c κs within = c.store_states.ensures.own

pub set_bit-requires-clause-next : goal.set_bit-requires-clause-next
set_bit-requires-clause-next g c κs within =
    link_comes (fixed_in g.A.Action.meaning c.args.self.now) (length c.args.self.now.rooms) c.args.self.now.table c.args.hand.now c.args.slot c.args.old c.args.new c.args.effect.now c.requires.own c.requires.node c.requires.next c.clear_bit.new.hand c.clear_bit.ensures.own c.clear_bit.ensures.view c.encode.result c.encode.ensures c.store_words.new.hand c.store_words.ensures.own c.store_words.ensures.view c.from.result c.from.ensures c.store_state.new.hand c.store_state.ensures.own c.store_state.ensures.view c.as_slice.result.now c.as_slice.ensures.value c.store_states.new.hand c.store_states.ensures.own c.store_states.ensures.view

pub set_bit-requires-clause-slot : goal.set_bit-requires-clause-slot
set_bit-requires-clause-slot g c κs within =
    same_slot (fixed_in g.A.Action.meaning c.args.self.now) (length c.args.self.now.rooms) c.args.self.now.table c.args.hand.now c.args.slot c.args.old c.args.new c.args.effect.now c.requires.own c.requires.node c.requires.next c.clear_bit.new.hand c.clear_bit.ensures.own c.clear_bit.ensures.view c.encode.result c.encode.ensures c.store_words.new.hand c.store_words.ensures.own c.store_words.ensures.view c.from.result c.from.ensures c.store_state.new.hand c.store_state.ensures.own c.store_state.ensures.view c.as_slice.result.now c.as_slice.ensures.value c.store_states.new.hand c.store_states.ensures.own c.store_states.ensures.view c.requires.slot

pub returns-clause-own : goal.returns-clause-own
returns-clause-own g c = c.set_bit.ensures.own

pub returns-clause-view : goal.returns-clause-view
returns-clause-view g c =
    all_stored (fixed_in g.A.Action.meaning c.args.self.now) (length c.args.self.now.rooms) c.args.self.now.table c.args.hand.now c.args.slot c.args.old c.args.new c.args.effect.now c.requires.own c.requires.node c.requires.next c.clear_bit.new.hand c.clear_bit.ensures.own c.clear_bit.ensures.view c.encode.result c.encode.ensures c.store_words.new.hand c.store_words.ensures.own c.store_words.ensures.view c.from.result c.from.ensures c.store_state.new.hand c.store_state.ensures.own c.store_state.ensures.view c.as_slice.result.now c.as_slice.ensures.value c.store_states.new.hand c.store_states.ensures.own c.store_states.ensures.view c.set_bit.new.hand c.set_bit.ensures.own c.set_bit.ensures.view
