use Rattle.std.proofs.Common.{◌≡◌, Some, None, List, ℕ, [], length, sym, subst, ap, ◌∙◌}
use Rattle.crossbeam_queue.specs.Fifo.{Forks, Merges}
use Rattle.crossbeam_queue.specs.Passes.{view}
use Rattle.feed_queue.specs.declared.hand.Hand.{Hand}
use Rattle.feed_queue.specs.Orders.{places_below}
use Rattle.feed_queue.specs.Hands.{hand, nothing_done, empty_hand, feeder_hand, without_evens, evens_alone, with_evens, without_odds, odds_alone, with_odds}
use Rattle.feed_queue.specs.Rule.{IsKept}
use Rattle.feed_queue.proofs.Keeping.{forks_evens, forks_odds, merges_evens, merges_odds}
use Rattle.feed_queue.proofs.gathering.gather_through.Goals as goal

pub another-evens-requires-clause-rule : goal.another-evens-requires-clause-rule
another-evens-requires-clause-rule g c =
    let id = c.args.pass.id in
    let P : Hand → Type 0 = λ v. Forks (IsKept g.N.Ported.ports) id v (without_evens v) (evens_alone v) in
    let seen : view c.args.pass ≡ nothing_done = c.requires.unused in
    subst P (sym seen) (forks_evens g.N.Ported.ports [] (Some []) (Some []) id)

pub another-odds-requires-clause-rule : goal.another-odds-requires-clause-rule
another-odds-requires-clause-rule g c =
    let id = c.another-evens.new.pass.id in
    let P : Hand → Type 0 = λ v. Forks (IsKept g.N.Ported.ports) id v (without_odds v) (odds_alone v) in
    let seen : view c.another-evens.new.pass ≡ hand None (Some []) (Some []) =
    c.another-evens.ensures.rule.0 ∙ ap without_evens c.requires.unused in
    subst P (sym seen) (forks_odds g.N.Ported.ports [] None (Some []) id)

pub absorb-requires-clause-rule : goal.absorb-requires-clause-rule
absorb-requires-clause-rule g c =
    let ports = g.N.Ported.ports in
    let id = c.another-odds.new.pass.id in
    let other = c.join-evens.result.0.id in
    let mine : List ℕ = places_below ports 0 (length ports) in
    let P : Hand → Hand → Type 0 = λ v w. Merges (IsKept ports) id v other w (with_evens v w) empty_hand in
    let seen : view c.another-odds.new.pass ≡ hand None None (Some []) =
    c.another-odds.ensures.rule.0 ∙ ap without_odds (c.another-evens.ensures.rule.0 ∙ ap without_evens c.requires.unused) in
    let fed : view c.join-evens.result.0 ≡ feeder_hand 0 mine = c.join-evens.ensures.first.1 in
    subst (λ v. P v (view c.join-evens.result.0)) (sym seen)
    (subst (P (hand None None (Some []))) (sym fed) (merges_evens ports mine None (Some []) id other))

pub absorb-requires-2-clause-rule : goal.absorb-requires-2-clause-rule
absorb-requires-2-clause-rule g c =
    let ports = g.N.Ported.ports in
    let id = c.absorb.new.pass.id in
    let other = c.join-evens.result.1.id in
    let evens : List ℕ = places_below ports 0 (length ports) in
    let mine : List ℕ = places_below ports 1 (length ports) in
    let P : Hand → Hand → Type 0 = λ v w. Merges (IsKept ports) id v other w (with_odds v w) empty_hand in
    let before : view c.another-odds.new.pass ≡ hand None None (Some []) =
    c.another-odds.ensures.rule.0 ∙ ap without_odds (c.another-evens.ensures.rule.0 ∙ ap without_evens c.requires.unused) in
    let seen : view c.absorb.new.pass ≡ hand (Some evens) None (Some []) =
    c.absorb.ensures.rule ∙ ap (λ (v : Hand). with_evens v (view c.join-evens.result.0)) before
    ∙ ap (with_evens (hand None None (Some []))) c.join-evens.ensures.first.1 in
    let fed : view c.join-evens.result.1 ≡ feeder_hand 1 mine = c.join-evens.ensures.second.1 in
    subst (λ v. P v (view c.join-evens.result.1)) (sym seen)
    (subst (P (hand (Some evens) None (Some []))) (sym fed) (merges_odds ports mine (Some evens) (Some []) id other))
