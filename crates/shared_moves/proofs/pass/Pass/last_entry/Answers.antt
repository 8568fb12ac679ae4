use Rattle.std.proofs.Common.{◌≡◌, ◌-◌, List, length, get_or, ap, ◌∙◌}
use Rattle.entity_recs.specs.declared.effect.Entry.{Entry}
use Rattle.move_journal.specs.Logs.{JournalView}
use Rattle.core_seats.specs.Logs.{entries_of}
use Rattle.ruled_words.specs.Passes.{PassView}
use Rattle.shared_moves.specs.InHand.{item_of}
use Rattle.shared_moves.proofs.PassRuns.{last_logged}
use Rattle.shared_moves.proofs.pass.Pass.last_entry.Goals as goal

pub returns : goal.returns
returns g c earlier cmd e is =
    let logged : c.as_slice-entries.result.now ≡ entries_of c.args.self.now.view.log =
    c.as_slice-entries.ensures ∙ ap (λ (l : JournalView). l.entries) c.self.invariant.log_is ∙ ap (λ (p : PassView). entries_of p.view.log) c.self.view_is in
    let last = c.index-entries-entries.result in
    c.same_entry.ensures ∙ c.index-entries-entries.is
    ∙ ap (λ (es : List Entry). get_or es (length es - 1) last) (logged ∙ ap entries_of is)
    ∙ last_logged earlier (item_of cmd e) last
