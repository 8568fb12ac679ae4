use Rattle.std.proofs.Common.{◌≡◌, ◌+◌, ◌≤◌, length, All, sym, ap, ◌∙◌, subst, arith}
use Rattle.core_steps.specs.Nodes.{Fixed}
use Rattle.core_seats.specs.Shown.{RulesView, fixed_of}
use Rattle.ruled_words.specs.Passes.{fixed_in, setting_of, IsOwn}
use Rattle.shared_moves.specs.PassParts.{AreFresh}
use Rattle.shared_moves.proofs.NewPasses.{new_are_fresh}
use Rattle.shared_moves.proofs.shared.Shared.start.Goals as goal

pub make_passes-requires-after_bounds : goal.make_passes-requires-after_bounds
make_passes-requires-after_bounds g c κs within =
    let words = c.in_ok-words.words in
    let F : Fixed = fixed_in g.A.Action.meaning words in
    let count : c.count_records-near_room.result ≡ length F.start.ids =
    c.count_records-near_room.ensures.value ∙ ap (λ (r : RulesView _). length (fixed_of g.A.Action.meaning r).start.ids) c.rules.ensures in
    let fits : 64 + length F.start.ids ≤ 64 + c.count_records-near_room.result = omega (arith, count) in
    subst (AreFresh (64 + c.count_records-near_room.result) c.args.room.now) (sym c.in_ok-words.ensures.hands)
    (new_are_fresh (64 + c.count_records-near_room.result) words.table (setting_of F) fits c.args.room.now c.requires.rooms.0)

pub returns-clause-own : goal.returns-clause-own
returns-clause-own g c = subst (All (IsOwn g.A.Action.meaning c.in_ok-words.words)) (sym c.in_ok-passes.ensures) c.in_ok-words.ensures.own
