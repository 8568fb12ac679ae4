use Rattle.std.proofs.Common.{◌≡◌, ℕ, List, length, map, sym, ap, ◌∙◌, subst, arith}
use Rattle.std.specs.Prelude.{All}
use Rattle.std.specs.List.{range_with_len}
use Rattle.entity_recs.specs.Commands.{command_of}
use Rattle.move_journal.specs.Logs.{JournalView}
use Rattle.arena_actions.specs.declared.map_action.MapAction.{MapAction}
use Rattle.ruled_words.specs.Passes.{PassView, TableView, IsPassOf}
use Rattle.shared_moves.specs.Closing.{IsClosed, log_from}
use Rattle.move_phase.specs.Running.{HaveRun}
use Rattle.move_phase.specs.Starting.{fixed_of_arena}
use Rattle.move_phase.proofs.Sharing.{all_may_serve, ready_count, are_served, numbers_rise, all_own, all_rest, have_run}
use Rattle.move_phase.proofs.workers.run_on_workers.Goals as goal

pub run_passes-shared-requires-clause-few : goal.run_passes-shared-requires-clause-few
run_passes-shared-requires-clause-few g c =
    let t = c.args.shared in
    let count = ready_count (fixed_of_arena t.action t.world) t.table c.args.workers (map command_of c.args.moves.now) t.rooms c.args.passes.items
    c.requires.workers.0 c.requires.ready in
    omega (arith, count, c.requires.workers.1)

pub run_passes-shared-requires-clause-may : goal.run_passes-shared-requires-clause-may
run_passes-shared-requires-clause-may g c =
    all_may_serve c.args.shared c.args.workers (map command_of c.args.moves.now) c.args.passes.items c.requires.workers.0 c.requires.ready

pub close-requires-clause-own : goal.close-requires-clause-own
close-requires-clause-own g c κs =
    let t = c.args.shared in
    let commands = map command_of c.args.moves.now in
    let new = c.run_passes-shared.new.passes.items in
    let are = are_served t c.args.workers commands c.args.passes.items new c.requires.workers.0 c.requires.ready c.run_passes-shared.ensures.served in
    subst (λ (s : TableView MapAction). All (IsPassOf (fixed_of_arena s.action s.world) (length s.rooms) s.table) new) (sym c.run_passes-shared.ensures.same)
    (all_own (fixed_of_arena t.action t.world) t.table commands t.rooms c.args.passes.items new are)

pub close-requires-clause-all : goal.close-requires-clause-all
close-requires-clause-all g c κs =
    let t = c.args.shared in
    let commands = map command_of c.args.moves.now in
    let new = c.run_passes-shared.new.passes.items in
    let are = are_served t c.args.workers commands c.args.passes.items new c.requires.workers.0 c.requires.ready c.run_passes-shared.ensures.served in
    subst (λ (s : TableView MapAction). map (λ (p : PassView). p.number) new ≡ range_with_len 0 (length s.rooms)) (sym c.run_passes-shared.ensures.same)
    (numbers_rise (fixed_of_arena t.action t.world) t.table commands t.rooms c.args.passes.items new are)

pub close-requires-clause-none : goal.close-requires-clause-none
close-requires-clause-none g c κs =
    let t = c.args.shared in
    let commands = map command_of c.args.moves.now in
    let new = c.run_passes-shared.new.passes.items in
    all_rest (fixed_of_arena t.action t.world) t.table commands t.rooms c.args.passes.items new
    (are_served t c.args.workers commands c.args.passes.items new c.requires.workers.0 c.requires.ready c.run_passes-shared.ensures.served)

pub close-requires-clause-world : goal.close-requires-clause-world
close-requires-clause-world g c κs = c.requires.world ∙ ap (λ (s : TableView MapAction). s.world) (sym c.run_passes-shared.ensures.same)

pub returns-clause-ran : goal.returns-clause-ran
returns-clause-ran g c =
    let t = c.args.shared in
    let F = fixed_of_arena t.action t.world in
    let commands = map command_of c.args.moves.now in
    let new = c.run_passes-shared.new.passes.items in
    let are = are_served t c.args.workers commands c.args.passes.items new c.requires.workers.0 c.requires.ready c.run_passes-shared.ensures.served in
    let closed : IsClosed F (map (λ (p : PassView). p.view.log) new) c.close.new.world =
    subst (λ (s : TableView MapAction). IsClosed (fixed_of_arena s.action s.world) (map (λ (p : PassView). p.view.log) new) c.close.new.world)
    c.run_passes-shared.ensures.same c.close.ensures.closed in
    let ran : HaveRun F (length t.rooms) commands (map log_from new) c.close.new.world =
    have_run F t.table commands t.rooms c.args.passes.items new are c.close.new.world closed in
    subst (λ (views : List JournalView). HaveRun F c.args.workers commands views c.close.new.world) (sym c.close.ensures.logs)
    (subst (λ (n : ℕ). HaveRun F n commands (map log_from new) c.close.new.world) c.requires.ready.count ran)
