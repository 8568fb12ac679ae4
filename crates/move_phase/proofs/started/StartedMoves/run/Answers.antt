use Rattle.std.proofs.Common.{map, sym, ap, ◌∙◌, arith}
use Rattle.std.proofs.lemmas.List.{length-map}
use Rattle.entity_recs.specs.Commands.{command_of}
use Rattle.arena_actions.specs.MapActions.{map_in}
use Rattle.move_phase.specs.Starting.{StartedView, fixed_of_arena}
use Rattle.move_phase.proofs.ArenaMoves.{none_moved, shared_of, ran_as_started, arena_right, arena_moved}
use Rattle.move_phase.proofs.Journals.{entries_fit, places_numbered, journal_in_order}
use Rattle.move_phase.proofs.started.StartedMoves.run.Goals as goal

pub returns-in_default-clause-moved : goal.returns-in_default-clause-moved
returns-in_default-clause-moved g c =
    none_moved (map_in c.args.self.action) c.args.world.now.records (map command_of c.args.moves.now) c.args.journal.now.entries c.requires.started.valid c.requires.empty

pub merge-requires-clause-numbered : goal.merge-requires-clause-numbered
merge-requires-clause-numbered g c =
    let s = c.args.self in
    let commands = map command_of c.args.moves.now in
    let same = ap (λ (v : StartedView). v.shared) (sym c.self.view_is) ∙ c.in-Some.is in
    let shared = shared_of c.args.world.now commands s c.in-Some.shared c.in-Some.passes same c.requires.started in
    let ran = ran_as_started c.args.world.now c.run_on_workers.new.world commands s c.in-Some.shared c.in-Some.passes.items c.self.inside.workers c.run_on_workers.new.logs c.as_slice.result.now shared
    (ap (λ (v : StartedView). v.workers) c.self.view_is) c.as_slice.ensures.value c.run_on_workers.ensures.ran in
    let some = c.requires.started.workers.0 in
    places_numbered (fixed_of_arena s.action c.args.world.now) s.workers commands c.as_slice.result.now c.run_on_workers.new.world ran some c.requires.apart

pub merge-requires-clause-room : goal.merge-requires-clause-room
merge-requires-clause-room g c =
    let s = c.args.self in
    let commands = map command_of c.args.moves.now in
    let same = ap (λ (v : StartedView). v.shared) (sym c.self.view_is) ∙ c.in-Some.is in
    let shared = shared_of c.args.world.now commands s c.in-Some.shared c.in-Some.passes same c.requires.started in
    let ran = ran_as_started c.args.world.now c.run_on_workers.new.world commands s c.in-Some.shared c.in-Some.passes.items c.self.inside.workers c.run_on_workers.new.logs c.as_slice.result.now shared
    (ap (λ (v : StartedView). v.workers) c.self.view_is) c.as_slice.ensures.value c.run_on_workers.ensures.ran in
    let some = c.requires.started.workers.0 in
    let fit = entries_fit (fixed_of_arena s.action c.args.world.now) s.workers commands c.as_slice.result.now c.run_on_workers.new.world ran some c.requires.apart in
    omega (arith, fit, length-map c.args.moves.now command_of, c.requires.room)

pub returns-clause-right : goal.returns-clause-right
returns-clause-right g c =
    let s = c.args.self in
    let commands = map command_of c.args.moves.now in
    let same = ap (λ (v : StartedView). v.shared) (sym c.self.view_is) ∙ c.in-Some.is in
    let shared = shared_of c.args.world.now commands s c.in-Some.shared c.in-Some.passes same c.requires.started in
    let ran = ran_as_started c.args.world.now c.run_on_workers.new.world commands s c.in-Some.shared c.in-Some.passes.items c.self.inside.workers c.run_on_workers.new.logs c.as_slice.result.now shared
    (ap (λ (v : StartedView). v.workers) c.self.view_is) c.as_slice.ensures.value c.run_on_workers.ensures.ran in
    let some = c.requires.started.workers.0 in
    arena_right s.action c.requires.started.of_its_map c.args.world.now c.run_on_workers.new.world s.workers commands c.as_slice.result.now ran some c.requires.apart shared.linked c.run_on_workers.ensures.linked c.merge.new.out.entries
    c.merge.ensures.by_place

pub returns-clause-order : goal.returns-clause-order
returns-clause-order g c =
    let s = c.args.self in
    let commands = map command_of c.args.moves.now in
    let same = ap (λ (v : StartedView). v.shared) (sym c.self.view_is) ∙ c.in-Some.is in
    let shared = shared_of c.args.world.now commands s c.in-Some.shared c.in-Some.passes same c.requires.started in
    let ran = ran_as_started c.args.world.now c.run_on_workers.new.world commands s c.in-Some.shared c.in-Some.passes.items c.self.inside.workers c.run_on_workers.new.logs c.as_slice.result.now shared
    (ap (λ (v : StartedView). v.workers) c.self.view_is) c.as_slice.ensures.value c.run_on_workers.ensures.ran in
    let some = c.requires.started.workers.0 in
    journal_in_order (fixed_of_arena s.action c.args.world.now) s.workers commands c.as_slice.result.now c.run_on_workers.new.world ran some c.requires.apart c.merge.new.out.entries c.merge.ensures.by_place

pub returns-clause-moved : goal.returns-clause-moved
returns-clause-moved g c =
    let s = c.args.self in
    let commands = map command_of c.args.moves.now in
    let same = ap (λ (v : StartedView). v.shared) (sym c.self.view_is) ∙ c.in-Some.is in
    let shared = shared_of c.args.world.now commands s c.in-Some.shared c.in-Some.passes same c.requires.started in
    let ran = ran_as_started c.args.world.now c.run_on_workers.new.world commands s c.in-Some.shared c.in-Some.passes.items c.self.inside.workers c.run_on_workers.new.logs c.as_slice.result.now shared
    (ap (λ (v : StartedView). v.workers) c.self.view_is) c.as_slice.ensures.value c.run_on_workers.ensures.ran in
    let some = c.requires.started.workers.0 in
    arena_moved s.action c.requires.started.of_its_map c.args.world.now c.run_on_workers.new.world s.workers commands c.as_slice.result.now ran some c.requires.apart shared.linked c.run_on_workers.ensures.linked c.merge.new.out.entries
    c.merge.ensures.by_place
