use Rattle.std.proofs.Common.{List, ap, ◌∙◌}
use Rattle.packet_read.specs.declared.arrival.Arrival.{Arrival}
use Rattle.move_journal.specs.Logs.{JournalView}
use Rattle.playback.proofs.Closed.{playback_with, are_printable, closes_by, given_if}
use Rattle.playback.proofs.playback.Playback.close.Goals as goal

pub invariant_of-self-2 : goal.invariant_of-self-2
invariant_of-self-2 g c =
    let given = c.in_ok-run_frame.ensures.given in
    are_printable c.self.inside.server c.as_slice.result.now c.run_frame.new.out.journal.entries _ (record {
      frame_is = given.frame_is;
      lists_are = given.lists_are;
      slots_are = given.slots_are;
      replies_are = given.replies_are;
    })

pub returns-clause-closed : goal.returns-clause-closed
returns-clause-closed g c =
    let old = c.self.inside in
    let view = ap (λ (xs : List Arrival). playback_with old.server old.is_open xs old.closed.items old.out) c.as_slice.ensures.value ∙ c.self.view_is in
    closes_by c.args.host.now.workers c.args.self.now old.server c.run_frame.new.server old.is_open c.as_slice.result.now old.closed.items old.out c.run_frame.new.out.journal.entries c.replace.result.entries
    view c.if-not-self.false (ap (λ (j : JournalView). j.entries) c.replace.ensures.value) c.in_ok-run_frame.ensures.runs

pub returns-clause-given : goal.returns-clause-given
returns-clause-given g c =
    let old = c.self.inside in
    let view = ap (λ (xs : List Arrival). playback_with old.server old.is_open xs old.closed.items old.out) c.as_slice.ensures.value ∙ c.self.view_is in
    let given = c.in_ok-run_frame.ensures.given in
    given_if c.args.self.now old.server old.is_open c.as_slice.result.now old.closed.items old.out _ c.run_frame.new.out.journal.entries c.replace.result.entries
    view c.if-not-self.false (ap (λ (j : JournalView). j.entries) c.replace.ensures.value) (record {
      frame_is = given.frame_is;
      lists_are = given.lists_are;
      slots_are = given.slots_are;
      replies_are = given.replies_are;
    })
