use Rattle.std.proofs.Common.{◌∙◌, length, refl, sym, ap, subst}
use Rattle.std.specs.Prelude.{not}
use Rattle.std.proofs.lemmas.Bool.{false≢true}
use Rattle.ruled_words.specs.Passes.{PassView, fixed_in}
use Rattle.ruled_words.specs.Straight.{AreHeldFor}
use Rattle.ruled_words.specs.GivingUp.{NoTakeWasRefused, WasRefused}
use Rattle.ruled_words.proofs.TriesLeft.{fewer_left}
use Rattle.ruled_words.proofs.TriedTakes.{until_start, until_taken, until_word, until_tried, until_refused, not_tried, tried_again}
use Rattle.ruled_words.proofs.shared_words.SharedWords.take_node.Goals as goal

pub loop-tries-init : goal.loop-tries-init
loop-tries-init g c = (c.requires.own, until_start c.args.hand.now c.requires.own.plain, not_tried c.args.hand.now.tally, λ is. is, λ at_once. refl, c.more_tries-tries.ensures.can, c.more_tries-tries.ensures.counted)

pub try_node-requires-clause-next : goal.try_node-requires-clause-next
try_node-requires-clause-next g c κs within =
    until_taken (fixed_in g.A.Action.meaning c.args.self.now) c.args.hand.now c.args.node c.requires.own.plain c.requires.next c.loop-tries.hand c.loop-tries.invariant.1

pub try_node-requires-clause-word : goal.try_node-requires-clause-word
try_node-requires-clause-word g c κs within found =
    until_word (fixed_in g.A.Action.meaning c.args.self.now) c.args.hand.now c.args.node c.requires.own.plain c.requires.next c.loop-tries.hand c.loop-tries.invariant.1 found ∙ c.requires.word found

pub try_node-requires-clause-held : goal.try_node-requires-clause-held
try_node-requires-clause-held g c κs within = subst (λ (q : PassView). AreHeldFor (fixed_in g.A.Action.meaning c.args.self.now) c.args.held.now q.view) (sym c.loop-tries.invariant.1) c.requires.held

pub returns-then-is_none-clause-at_once : goal.returns-then-is_none-clause-at_once
returns-then-is_none-clause-at_once g c e =
    let met = g.met.P.Patience in
    let some_waits = met.all_or_none c.loop-tries.tries c.next.new.self c.next.result c.next.ensures.steps in
    sym some_waits ∙ c.is_none.ensures ∙ ap not c.if-is_none.true

pub loop-tries-smaller : goal.loop-tries-smaller
loop-tries-smaller g c =
    (fewer_left g.P.Tries.Iterator.can_next g.P.Tries.Iterator.remaining c.loop-tries.tries c.next.new.self c.next.result c.next.ensures.goes c.loop-tries.invariant.6 (c.is_none.ensures ∙ ap not c.if-is_none.false)).2

pub returns-then-is_none-clause-tried : goal.returns-then-is_none-clause-tried
returns-then-is_none-clause-tried g c = tried_again _ _ _ c.loop-tries.invariant.2 c.try_node.ensures.tried

pub returns-then-is_none-clause-refused : goal.returns-then-is_none-clause-refused
returns-then-is_none-clause-refused g c e =
    let met = g.met.P.Patience in
    let some_waits = met.all_or_none c.loop-tries.tries c.next.new.self c.next.result c.next.ensures.steps in
    subst (λ (q : PassView). WasRefused (fixed_in g.A.Action.meaning c.args.self.now) (length c.args.self.now.rooms) c.args.node q c.try_node.new.hand)
    (c.loop-tries.invariant.4 (sym some_waits ∙ c.is_none.ensures ∙ ap not c.if-is_none.true)) (c.try_node.ensures.refused c.loop-tries-test.true)

pub returns-then-is_none-clause-refusals : goal.returns-then-is_none-clause-refusals
returns-then-is_none-clause-refusals g c is = c.try_node.ensures.refusals (c.loop-tries.invariant.3 is)

pub loop-tries-preserved : goal.loop-tries-preserved
loop-tries-preserved g c =
    let met = g.met.P.Patience in
    let some_waits = met.all_or_none c.loop-tries.tries c.next.new.self c.next.result c.next.ensures.steps in
    let some = c.is_none.ensures ∙ ap not c.if-is_none.false in
    let left = fewer_left g.P.Tries.Iterator.can_next g.P.Tries.Iterator.remaining c.loop-tries.tries c.next.new.self c.next.result c.next.ensures.goes c.loop-tries.invariant.6 some in (
      c.try_node.ensures.own,
      until_refused (fixed_in g.A.Action.meaning c.args.self.now) c.args.hand.now c.args.node c.requires.own.plain c.requires.next c.loop-tries.hand c.loop-tries.invariant.1 c.try_node.new.hand c.try_node.result c.loop-tries-test.true c.try_node.ensures.pass,
      tried_again _ _ _ c.loop-tries.invariant.2 c.try_node.ensures.tried,
      λ is. c.try_node.ensures.refusals (c.loop-tries.invariant.3 is),
      λ at_once. absurd (false≢true (sym at_once ∙ sym some_waits ∙ some)),
      left.0,
      left.1,
    )

pub returns-clause-view : goal.returns-clause-view
returns-clause-view g c e =
    until_tried (fixed_in g.A.Action.meaning c.args.self.now) c.args.hand.now c.args.node c.requires.own.plain c.requires.next c.loop-tries.hand c.loop-tries.invariant.1 c.try_node.new.hand c.try_node.result c.loop-tries-test.false c.try_node.ensures.pass

pub returns-clause-tried : goal.returns-clause-tried
returns-clause-tried g c = tried_again _ _ _ c.loop-tries.invariant.2 c.try_node.ensures.tried

pub returns-clause-served : goal.returns-clause-served
returns-clause-served g c at_once e = subst (λ (q : PassView). NoTakeWasRefused q c.try_node.new.hand) (c.loop-tries.invariant.4 at_once) (c.try_node.ensures.served c.loop-tries-test.false)

pub returns-clause-refusals : goal.returns-clause-refusals
returns-clause-refusals g c is = c.try_node.ensures.refusals (c.loop-tries.invariant.3 is)
