use Rattle.std.proofs.Common.{rules, ◌≡◌}
use Rattle.std.proofs.lemmas.List.Elements.{All-append, All-drop, All-same, All-take, All-weaker}
use Rattle.crew.specs.Plays.{IsFree, IsRested}
use Rattle.crew.proofs.Changing.{changes_each}
use Rattle.crew.proofs.Handing.{free_from_rested, rested_from_free}
use Rattle.crew.proofs.rounds.Crew.run_each.Goals as goal

pub run_turns-requires-clause-free : goal.run_turns-requires-clause-free
run_turns-requires-clause-free g c =
    let same : c.as_mut_slice.result.now ≡ c.self.inside.desks.items = search rules in
    All-same (λ d. IsFree d.seat.me) _ _ same
    (All-weaker (λ d. IsRested d.seat.me) (λ d. IsFree d.seat.me) (λ d r. free_from_rested d.seat.me r) _ c.self.inside.rested)

pub invariant_of-self-inside : goal.invariant_of-self-inside
invariant_of-self-inside g c = (
  All-take (λ d. IsRested d.seat.me) _ _
      (All-append (λ d. IsRested d.seat.me) _ _
      (All-weaker (λ d. IsFree d.seat.me) (λ d. IsRested d.seat.me) (λ d f. rested_from_free d.seat.me f) _ c.run_turns.ensures.free)
      (All-drop (λ d. IsRested d.seat.me) _ _ c.self.inside.rested)),
  tt,
)

pub returns-clause-changed : goal.returns-clause-changed
returns-clause-changed g c = changes_each g.T.Task.changes _ _ c.run_turns.ensures.changed
