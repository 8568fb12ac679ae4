use Rattle.std.proofs.Common.{◌≤◌, ◌+◌, ◌++◌, ap, ◌∙◌, sym, subst, length}
use Rattle.std.proofs.lemmas.Bool.{false≢true}
use Rattle.std.specs.Io.KnownBytes.{Appends}
use Rattle.edge_io.specs.Writes.{AppendsPart}
use Rattle.bot_ways.specs.PlanTexts.{map_text}
use Rattle.demo_make.specs.Remaining.{events_text}
use Rattle.demo_walk.specs.Remaining.{remaining_events}
use Rattle.demo_walk.proofs.Texts.{walk_text-parts}
use Rattle.demo_walk.proofs.writing.write_walk.Goals as goal

pub returns-in_err-write_parts-clause-write_fault : goal.returns-in_err-write_parts-clause-write_fault
returns-in_err-write_parts-clause-write_fault g c =
    let m = c.args.map.now in
    let whole = ap (λ t. t ++ events_text (remaining_events c.walk_on.result)) (c.as_slice.ensures ∙ c.in_ok-lines.ensures)
    ∙ ap (λ es. map_text m ++ events_text es) c.walk_on.ensures.events ∙ walk_text-parts m c.args.seed c.args.players c.args.frames in
    λ _. subst (AppendsPart (g.K.Sink.taken c.args.sink.now) (g.K.Sink.taken c.write_parts.new.sink)) whole c.in_err-write_parts.ensures.err

pub returns-in_err-write_parts-clause-sure : goal.returns-in_err-write_parts-clause-sure
returns-in_err-write_parts-clause-sure g c =
    let m = c.args.map.now in
    let whole = ap (λ t. t ++ events_text (remaining_events c.walk_on.result)) (c.as_slice.ensures ∙ c.in_ok-lines.ensures)
    ∙ ap (λ es. map_text m ++ events_text es) c.walk_on.ensures.events ∙ walk_text-parts m c.args.seed c.args.players c.args.frames in
    λ fits _. false≢true (c.in_err-write_parts.ensures.sure (subst (λ t. length t ≤ g.K.Sink.room c.args.sink.now) (sym whole) fits))

pub returns-clause-ok : goal.returns-clause-ok
returns-clause-ok g c =
    let m = c.args.map.now in
    let whole = ap (λ t. t ++ events_text (remaining_events c.walk_on.result)) (c.as_slice.ensures ∙ c.in_ok-lines.ensures)
    ∙ ap (λ es. map_text m ++ events_text es) c.walk_on.ensures.events ∙ walk_text-parts m c.args.seed c.args.players c.args.frames in
    subst (Appends (g.K.Sink.taken c.args.sink.now) (g.K.Sink.taken c.write_parts.new.sink)) whole c.in_ok-write_parts.ensures.ok

pub returns-clause-room : goal.returns-clause-room
returns-clause-room g c =
    let m = c.args.map.now in
    let whole = ap (λ t. t ++ events_text (remaining_events c.walk_on.result)) (c.as_slice.ensures ∙ c.in_ok-lines.ensures)
    ∙ ap (λ es. map_text m ++ events_text es) c.walk_on.ensures.events ∙ walk_text-parts m c.args.seed c.args.players c.args.frames in
    subst (λ t. g.K.Sink.room c.args.sink.now ≤ g.K.Sink.room c.write_parts.new.sink + length t) whole c.in_ok-write_parts.ensures.room
