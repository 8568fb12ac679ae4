use Rattle.std.proofs.Common.{◌≡◌, length, sym, ap, subst}
use Rattle.atomic_table.specs.Table.{Me}
use Rattle.core_steps.specs.Stands.{IsStart}
use Rattle.ruled_words.specs.Sights.{SightView}
use Rattle.ruled_words.specs.Passes.{TableView, fixed_in, sight_of}
use Rattle.ruled_words.specs.Ends.{AreEndedBelow, Closes}
use Rattle.ruled_words.proofs.Finals.{made_at_end, start_at_end, closes_at_end, refusals_at_end}
use Rattle.ruled_words.proofs.shared_words.SharedWords.close.Goals as goal

pub returns-clause-closes : goal.returns-clause-closes
returns-clause-closes g c =
    let same : c.into_table_seat.result.me.0 ≡ sight_of c.args.first = ap (λ (m : Me (Unit {0}) SightView). m.0) c.into_table_seat.ensures.1 in
    let ended = subst (λ (t : TableView _). AreEndedBelow (length t.rooms) c.args.first.view) (sym c.self.view_is) c.requires.ended in
    subst (λ (t : TableView _). Closes (fixed_in g.A.Action.meaning t) c.words_of.result c.args.first.view) c.self.view_is
    (closes_at_end _ _ _ _ (sight_of c.args.first) _ _ c.close_with.ensures.values.2 same c.requires.rests c.requires.first ended _ c.words_of.ensures)

pub returns-clause-made : goal.returns-clause-made
returns-clause-made g c =
    let same : c.into_table_seat.result.me.0 ≡ sight_of c.args.first = ap (λ (m : Me (Unit {0}) SightView). m.0) c.into_table_seat.ensures.1 in
    let ended = subst (λ (t : TableView _). AreEndedBelow (length t.rooms) c.args.first.view) (sym c.self.view_is) c.requires.ended in
    subst (λ (t : TableView _). c.args.first.view.made ≡ length t.rooms) c.self.view_is
    (made_at_end _ _ _ _ (sight_of c.args.first) _ _ c.close_with.ensures.values.2 same c.requires.rests c.requires.first ended)

pub returns-clause-start : goal.returns-clause-start
returns-clause-start g c =
    let same : c.into_table_seat.result.me.0 ≡ sight_of c.args.first = ap (λ (m : Me (Unit {0}) SightView). m.0) c.into_table_seat.ensures.1 in
    let ended = subst (λ (t : TableView _). AreEndedBelow (length t.rooms) c.args.first.view) (sym c.self.view_is) c.requires.ended in
    subst (λ (t : TableView _). IsStart (fixed_in g.A.Action.meaning t)) c.self.view_is
    (start_at_end _ _ _ _ (sight_of c.args.first) _ _ c.close_with.ensures.values.2 same c.requires.rests c.requires.first ended)

pub returns-clause-refusals : goal.returns-clause-refusals
returns-clause-refusals g c =
    let same : c.into_table_seat.result.me.0 ≡ sight_of c.args.first = ap (λ (m : Me (Unit {0}) SightView). m.0) c.into_table_seat.ensures.1 in
    let ended = subst (λ (t : TableView _). AreEndedBelow (length t.rooms) c.args.first.view) (sym c.self.view_is) c.requires.ended in
    refusals_at_end _ _ _ _ (sight_of c.args.first) _ _ c.close_with.ensures.values.2 same c.requires.rests c.requires.first ended
