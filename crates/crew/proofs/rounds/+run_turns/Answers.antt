use Rattle.std.proofs.Common.{rules, subst, sym}
use Rattle.std.proofs.lemmas.List.Elements.{All-head, All-rest, All-same, All-take, All-drop}
use Rattle.crew.specs.Rounds.{AreChanges}
use Rattle.crew.proofs.Changing.{changes_first, changes_turn}
use Rattle.crew.proofs.rounds.+run_turns.Goals as goal

pub run_turn-requires-clause-may : goal.run_turn-requires-clause-may
run_turn-requires-clause-may g t c =
    let some = c.in-Some in
    let others = All-rest g.T.Task.may_run some.own.now some.others.now c.args.items.now some.ensures.cases.0 c.requires.may in
    let own = All-head g.T.Task.may_run some.own.now some.others.now (All-same g.T.Task.may_run _ _ (sym some.ensures.cases.0) c.requires.may) in
    (All-same g.T.Task.may_run _ _ c.split_at_mut-lent.ensures.front (All-take g.T.Task.may_run _ _ others), own)

pub run_turns-requires : goal.run_turns-requires
run_turns-requires g t c κs within =
    let some = c.in-Some in
    let others = All-rest g.T.Task.may_run some.own.now some.others.now c.args.items.now some.ensures.cases.0 c.requires.may in
    let later = All-same g.T.Task.may_run _ _ c.split_at_mut-lent.ensures.back (All-drop g.T.Task.may_run _ _ others) in
    (search rules, (search rules, (search rules, (c.run_turn.ensures.free, later))))

pub returns-clause-changed : goal.returns-clause-changed
returns-clause-changed g t c =
    let some = c.in-Some in
    let cut = c.split_at_mut-lent in
    let changes = g.T.Task.changes in
    changes_first changes _ _ _ _ _ some.ensures.cases.0 c.run_turn.ensures.own
    (changes_turn changes _ _ _ _
    (subst (λ zs. AreChanges changes zs c.run_turn.new.lent) cut.ensures.front c.run_turn.ensures.lent)
    (subst (λ zs. AreChanges changes zs c.run_turns.new.items) cut.ensures.back c.run_turns.ensures.changed))
