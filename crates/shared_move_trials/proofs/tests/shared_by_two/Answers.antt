use Rattle.std.proofs.Common.{rules, ◌≡◌, length}
use Rattle.ruled_words.specs.Passes.{fixed_in, setting_of}
use Rattle.ruled_words.specs.NewPasses.{first_pass, other_pass}
use Rattle.trial_passes.proofs.Trials.{rooms, are_free}
use Rattle.shared_move_trials.proofs.tests.shared_by_two.Goals as goal

pub returns-clause-first : goal.returns-clause-first
returns-clause-first g c =
    let table = c.in_ok-shared.shared.table in
    let setting = setting_of (fixed_in g.A.Action.meaning c.in_ok-shared.shared) in
    let first : c.in_ok-first.first ≡ first_pass table setting (rooms c.args.room) = search rules in
    let second : c.in_ok-second.second ≡ other_pass table setting (rooms c.args.room) 1 = search rules in
    (are_free (fixed_in g.A.Action.meaning c.in_ok-shared.shared) (length c.in_ok-shared.shared.rooms) table c.args.room c.in_ok-shared.passes.items c.in_ok-first.first c.in_ok-second.second c.requires.room c.in_ok-shared.ensures.passes first second c.in_ok-shared.ensures.own).0

pub returns-clause-second : goal.returns-clause-second
returns-clause-second g c =
    let table = c.in_ok-shared.shared.table in
    let setting = setting_of (fixed_in g.A.Action.meaning c.in_ok-shared.shared) in
    let first : c.in_ok-first.first ≡ first_pass table setting (rooms c.args.room) = search rules in
    let second : c.in_ok-second.second ≡ other_pass table setting (rooms c.args.room) 1 = search rules in
    (are_free (fixed_in g.A.Action.meaning c.in_ok-shared.shared) (length c.in_ok-shared.shared.rooms) table c.args.room c.in_ok-shared.passes.items c.in_ok-first.first c.in_ok-second.second c.requires.room c.in_ok-shared.ensures.passes first second c.in_ok-shared.ensures.own).1
