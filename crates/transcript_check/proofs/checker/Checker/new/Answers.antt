use Rattle.std.proofs.Common.{sym, ap, ◌∙◌, subst}
use Rattle.arena_map.specs.Maps.{IsMap}
use Rattle.arena_actions.specs.MapActions.{map_in}
use Rattle.client_ports.specs.States.{IsServerState}
use Rattle.plain_server.specs.RecordsById.{opening}
use Rattle.plain_server.proofs.Frames.{opening_is}
use Rattle.transcript_check.proofs.checker.Checker.new.Goals as goal

pub returns-clause-is : goal.returns-clause-is
returns-clause-is c =
    let map = map_in c.in_ok-comparison.comparison.mover.action in
    let rules : IsMap map = subst IsMap c.map-arena.ensures.value c.opening.ensures.rules in
    record {
      is_map = rules;
      fits = subst (IsServerState map) (sym (c.in_ok-state.ensures.state ∙ ap opening c.map-arena.ensures.value)) (opening_is map rules);
    }
