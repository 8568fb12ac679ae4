use Rattle.std.proofs.Common.{◌≡◌, ◌∙◌, refl, sym, ap, subst, length, Some}
use Rattle.std.specs.Prelude.{not}
use Rattle.std.proofs.lemmas.Bool.{false≢true}
use Rattle.core_steps.specs.Points.{Resolving}
use Rattle.core_steps.specs.Reads.{View, effect_loaded}
use Rattle.core_steps.specs.Steps.{first, view_after_claim}
use Rattle.ruled_words.specs.Passes.{PassView, fixed_in}
use Rattle.ruled_words.specs.Straight.{AreHeldFor}
use Rattle.ruled_words.specs.GivingUp.{NoTakeWasRefused, WasRefused}
use Rattle.ruled_words.specs.Writing.{nodes_written}
use Rattle.ruled_words.proofs.TriesLeft.{fewer_left}
use Rattle.ruled_words.proofs.Claims.{holds_still, tries_none, tries_on, tried_where, tried_not}
use Rattle.ruled_words.proofs.shared_words.SharedWords.take_first.Goals as goal

pub loop-tries-init : goal.loop-tries-init
loop-tries-init g c = (tries_none (fixed_in g.A.Action.meaning c.args.self.now) (length c.args.self.now.rooms) c.args.self.now.table c.args.hand.now c.requires.own, λ are. are, λ at_once. refl, c.more_tries-tries.ensures.can, c.more_tries-tries.ensures.counted)

pub try_first-requires-clause-own : goal.try_first-requires-clause-own
try_first-requires-clause-own g c κs within = c.loop-tries.invariant.0.own

pub try_first-requires-clause-at : goal.try_first-requires-clause-at
try_first-requires-clause-at g c κs within =
    holds_still (fixed_in g.A.Action.meaning c.args.self.now) (length c.args.self.now.rooms) c.args.self.now.table c.args.hand.now c.args.hand.now.view c.loop-tries.hand c.loop-tries.invariant.0 (λ (v : View). v.point ≡ Resolving) c.requires.at

pub try_first-requires-clause-effect : goal.try_first-requires-clause-effect
try_first-requires-clause-effect g c κs within =
    holds_still (fixed_in g.A.Action.meaning c.args.self.now) (length c.args.self.now.rooms) c.args.self.now.table c.args.hand.now c.args.hand.now.view c.loop-tries.hand c.loop-tries.invariant.0 (λ (v : View). c.args.effect.now ≡ effect_loaded (fixed_in g.A.Action.meaning c.args.self.now) v) c.requires.effect

pub try_first-requires-clause-next : goal.try_first-requires-clause-next
try_first-requires-clause-next g c κs within =
    holds_still (fixed_in g.A.Action.meaning c.args.self.now) (length c.args.self.now.rooms) c.args.self.now.table c.args.hand.now c.args.hand.now.view c.loop-tries.hand c.loop-tries.invariant.0 (λ (v : View). first (nodes_written (fixed_in g.A.Action.meaning c.args.self.now) v c.args.effect.now) ≡ Some c.args.node) c.requires.next

pub try_first-requires-clause-held : goal.try_first-requires-clause-held
try_first-requires-clause-held g c κs within =
    holds_still (fixed_in g.A.Action.meaning c.args.self.now) (length c.args.self.now.rooms) c.args.self.now.table c.args.hand.now c.args.hand.now.view c.loop-tries.hand c.loop-tries.invariant.0 (AreHeldFor (fixed_in g.A.Action.meaning c.args.self.now) c.args.held.now) c.requires.held

pub returns-then-is_none-clause-at_once : goal.returns-then-is_none-clause-at_once
returns-then-is_none-clause-at_once g c e =
    let met = g.met.P.Patience in
    let some_waits = met.all_or_none c.loop-tries.tries c.next.new.self c.next.result c.next.ensures.steps in
    sym some_waits ∙ c.is_none.ensures ∙ ap not c.if-is_none.true

pub loop-tries-smaller : goal.loop-tries-smaller
loop-tries-smaller g c =
    (fewer_left g.P.Tries.Iterator.can_next g.P.Tries.Iterator.remaining c.loop-tries.tries c.next.new.self c.next.result c.next.ensures.goes c.loop-tries.invariant.4 (c.is_none.ensures ∙ ap not c.if-is_none.false)).2

pub returns-then-is_none-clause-refused : goal.returns-then-is_none-clause-refused
returns-then-is_none-clause-refused g c e =
    let met = g.met.P.Patience in
    let some_waits = met.all_or_none c.loop-tries.tries c.next.new.self c.next.result c.next.ensures.steps in
    subst (λ (q : PassView). WasRefused (fixed_in g.A.Action.meaning c.args.self.now) (length c.args.self.now.rooms) c.args.node q c.try_first.new.hand)
    (c.loop-tries.invariant.2 (sym some_waits ∙ c.is_none.ensures ∙ ap not c.if-is_none.true)) (c.try_first.ensures.refused c.loop-tries-test.true)

pub returns-then-is_none-clause-refusals : goal.returns-then-is_none-clause-refusals
returns-then-is_none-clause-refusals g c are = c.try_first.ensures.refusals (c.loop-tries.invariant.1 are)

pub loop-tries-preserved : goal.loop-tries-preserved
loop-tries-preserved g c =
    let met = g.met.P.Patience in
    let some_waits = met.all_or_none c.loop-tries.tries c.next.new.self c.next.result c.next.ensures.steps in
    let some = c.is_none.ensures ∙ ap not c.if-is_none.false in
    let left = fewer_left g.P.Tries.Iterator.can_next g.P.Tries.Iterator.remaining c.loop-tries.tries c.next.new.self c.next.result c.next.ensures.goes c.loop-tries.invariant.4 some in (
      tries_on (fixed_in g.A.Action.meaning c.args.self.now) (length c.args.self.now.rooms) c.args.self.now.table c.args.hand.now c.args.hand.now.view c.loop-tries.hand c.loop-tries.invariant.0 c.try_first.new.hand (λ (v : View). v) (λ v t u. refl) c.try_first.ensures.own
          (tried_not c.loop-tries.hand (view_after_claim (fixed_in g.A.Action.meaning c.args.self.now) c.args.effect.now c.args.node c.loop-tries.hand.view) c.loop-tries.hand.view c.try_first.new.hand c.loop-tries-test.true c.try_first.ensures.tried),
      λ are. c.try_first.ensures.refusals (c.loop-tries.invariant.1 are),
      λ at_once. absurd (false≢true (sym at_once ∙ sym some_waits ∙ some)),
      left.0,
      left.1,
    )

pub returns-clause-tried : goal.returns-clause-tried
returns-clause-tried g c e =
    (tries_on (fixed_in g.A.Action.meaning c.args.self.now) (length c.args.self.now.rooms) c.args.self.now.table c.args.hand.now c.args.hand.now.view c.loop-tries.hand c.loop-tries.invariant.0 c.try_first.new.hand (view_after_claim (fixed_in g.A.Action.meaning c.args.self.now) c.args.effect.now c.args.node) (λ v t u. refl) c.try_first.ensures.own
    (tried_where c.loop-tries.hand (view_after_claim (fixed_in g.A.Action.meaning c.args.self.now) c.args.effect.now c.args.node c.loop-tries.hand.view) c.loop-tries.hand.view c.try_first.new.hand c.loop-tries-test.false c.try_first.ensures.tried)).tried

pub returns-clause-served : goal.returns-clause-served
returns-clause-served g c at_once e = subst (λ (q : PassView). NoTakeWasRefused q c.try_first.new.hand) (c.loop-tries.invariant.2 at_once) (c.try_first.ensures.served c.loop-tries-test.false)

pub returns-clause-refusals : goal.returns-clause-refusals
returns-clause-refusals g c are = c.try_first.ensures.refusals (c.loop-tries.invariant.1 are)
