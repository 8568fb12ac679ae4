use Rattle.std.proofs.Common.{◌∙◌, ap, sym, length, take, drop, arith}
use Rattle.core_steps.specs.Steps.{first}
use Rattle.ruled_words.specs.Passes.{fixed_in}
use Rattle.ruled_words.specs.Straight.{AreHeldFor}
use Rattle.ruled_words.proofs.GivingUp.{given_up_before, none_refused_at_start, none_refused_yet, on_err}
use Rattle.ruled_words.proofs.Claims.{holds_still, first_node, no_nodes, claims_begun, claim_comes, claims_same, claim_taken, claims_made, claims_none, claiming_view}
use Rattle.ruled_words.proofs.shared_words.SharedWords.take_write_nodes.Goals as goal

pub claim_first-requires-clause-next : goal.claim_first-requires-clause-next
claim_first-requires-clause-next g c κs within = ap first (sym c.requires.nodes) ∙ first_node c.args.nodes.now (sym c.is_empty.ensures ∙ c.if-is_empty.false)

pub loop-i-init : goal.loop-i-init
loop-i-init g c = (
  claims_begun (fixed_in g.A.Action.meaning c.args.self.now) (length c.args.self.now.rooms) c.args.self.now.table c.args.hand.now c.args.effect.now c.args.nodes.now c.claim_first.new.hand (sym c.is_empty.ensures ∙ c.if-is_empty.false) c.requires.nodes c.claim_first.ensures.own c.in_ok-claim_first.ensures.tried,
  c.claim_first.ensures.refusals,
  c.in_ok-claim_first.ensures.served,
)

pub claim_next-requires-clause-own : goal.claim_next-requires-clause-own
claim_next-requires-clause-own g c κs within = c.loop-i.invariant.0.own

pub claim_next-requires-clause-at : goal.claim_next-requires-clause-at
claim_next-requires-clause-at g c κs within = claim_comes (fixed_in g.A.Action.meaning c.args.self.now) (length c.args.self.now.rooms) c.args.self.now.table c.args.hand.now c.args.effect.now c.args.nodes.now c.loop-i.hand c.loop-i.i c.loop-i-test.true c.loop-i.invariant.0

pub claim_next-requires-clause-held : goal.claim_next-requires-clause-held
claim_next-requires-clause-held g c κs within =
    holds_still (fixed_in g.A.Action.meaning c.args.self.now) (length c.args.self.now.rooms) c.args.self.now.table c.args.hand.now (claiming_view c.args.hand.now.view c.args.effect.now (take c.loop-i.i c.args.nodes.now) (drop c.loop-i.i c.args.nodes.now)) c.loop-i.hand c.loop-i.invariant.0 (AreHeldFor (fixed_in g.A.Action.meaning c.args.self.now) c.args.held.now) c.requires.held

pub loop-i-preserved : goal.loop-i-preserved
loop-i-preserved g c = (
  claim_taken (fixed_in g.A.Action.meaning c.args.self.now) (length c.args.self.now.rooms) c.args.self.now.table c.args.hand.now c.args.effect.now c.args.nodes.now c.loop-i.hand c.loop-i.i c.loop-i-test.true c.loop-i.invariant.0 c.claim_next.new.hand c.claim_next.ensures.own c.in_ok-claim_next.ensures.tried,
  λ are. c.claim_next.ensures.refusals (c.loop-i.invariant.1 are),
  λ at_once. none_refused_yet _ _ _ (c.loop-i.invariant.2 at_once) (c.in_ok-claim_next.ensures.served at_once),
)

pub returns-clause-own : goal.returns-clause-own
returns-clause-own g c = c.loop-i.invariant.0.own

pub returns-clause-tried : goal.returns-clause-tried
returns-clause-tried g c = claims_made (fixed_in g.A.Action.meaning c.args.self.now) (length c.args.self.now.rooms) c.args.self.now.table c.args.hand.now c.args.effect.now c.args.nodes.now c.loop-i.hand c.loop-i.i (sym c.is_empty.ensures ∙ c.if-is_empty.false) (omega (arith, c.loop-i-test.false)) c.requires.nodes c.loop-i.invariant.0

pub returns-clause-refusals : goal.returns-clause-refusals
returns-clause-refusals g c = c.loop-i.invariant.1

pub returns-then-is_empty-clause-tried : goal.returns-then-is_empty-clause-tried
returns-then-is_empty-clause-tried g c =
    claims_none (fixed_in g.A.Action.meaning c.args.self.now) (length c.args.self.now.rooms) c.args.self.now.table c.args.hand.now c.args.effect.now c.requires.own c.requires.at (sym c.requires.nodes ∙ no_nodes c.args.nodes.now (sym c.is_empty.ensures ∙ c.if-is_empty.true))

pub returns-clause-served : goal.returns-clause-served
returns-clause-served g c = c.loop-i.invariant.2

pub returns-then-is_empty-clause-served : goal.returns-then-is_empty-clause-served
returns-then-is_empty-clause-served g c at_once = none_refused_at_start c.args.hand.now

pub returns-in_err-claim_first-clause-given_up : goal.returns-in_err-claim_first-clause-given_up
returns-in_err-claim_first-clause-given_up g c = on_err c.from_residual.result c.in_err-claim_first.ensures.given_up

pub returns-in_err-claim_next-clause-given_up : goal.returns-in_err-claim_next-clause-given_up
returns-in_err-claim_next-clause-given_up g c =
    on_err c.from_residual-in_err-claim_next.result
    (given_up_before (fixed_in g.A.Action.meaning c.args.self.now) (length c.args.self.now.rooms) c.args.hand.now c.loop-i.hand c.claim_next.new.hand (claims_same (fixed_in g.A.Action.meaning c.args.self.now) (length c.args.self.now.rooms) c.args.self.now.table c.args.hand.now c.args.effect.now c.args.nodes.now c.loop-i.hand c.loop-i.i c.loop-i-test.true c.loop-i.invariant.0 (c.loop-i.invariant.2 c.in_err-claim_next.ensures.at_once)) c.in_err-claim_next.ensures.given_up)

pub returns-in_err-claim_next-clause-refusals : goal.returns-in_err-claim_next-clause-refusals
returns-in_err-claim_next-clause-refusals g c are = c.claim_next.ensures.refusals (c.loop-i.invariant.1 are)
