use Rattle.std.proofs.Common.{◌≡◌, ◌≤◌, length, All, sym, ap, ◌∙◌, subst, arith}
use Rattle.core_steps.specs.Nodes.{Fixed}
use Rattle.core_seats.specs.Shown.{RulesView, fixed_of}
use Rattle.ruled_words.specs.Passes.{fixed_in, setting_of, IsOwn}
use Rattle.region_locks.specs.PassLists.{AreNew}
use Rattle.region_locks.proofs.NewSeats.{all_are_new}
use Rattle.region_locks.proofs.table.NodeTable.new.Goals as goal

pub make_passes-requires-clause-new : goal.make_passes-requires-clause-new
make_passes-requires-clause-new g c κs within =
    let words = c.in_ok-words.words in
    let F : Fixed = fixed_in g.A.Action.meaning words in
    let count : c.count_records-records.result ≡ length F.start.ids =
    c.count_records-records.ensures.value ∙ ap (λ (r : RulesView _). length (fixed_of g.A.Action.meaning r).start.ids) c.rules.ensures in
    let fits : length F.start.ids ≤ c.count_records-records.result = omega (arith, count) in
    subst (AreNew c.count_records-records.result (length c.args.room.now) c.args.room.now) (sym c.in_ok-words.ensures.hands)
    (all_are_new c.count_records-records.result words.table (setting_of F) fits c.args.room.now c.requires.rooms.0)

pub returns-clause-own : goal.returns-clause-own
returns-clause-own g c = subst (All (IsOwn g.A.Action.meaning c.in_ok-words.words)) (sym c.in_ok-passes.ensures) c.in_ok-words.ensures.own
