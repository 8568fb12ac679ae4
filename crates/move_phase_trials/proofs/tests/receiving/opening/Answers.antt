use Rattle.std.proofs.Common.{◌≡◌, ◌==◌, ℕ, List, Result, Ok, Err, IfOk, ap, ◌∙◌}
use Rattle.std.specs.List.{find}
use Rattle.entity_recs.specs.declared.rec.Rec.{Rec}
use Rattle.arena_map.specs.Maps.{MapView, IsMap, entities_of}
use Rattle.world_tree.specs.Worlds.{WorldView, record_of}
use Rattle.client_ports.specs.Clients.{no_clients}
use Rattle.client_ports.specs.States.{state_of, IsState}
use Rattle.client_ports.proofs.Valid.{opening-fits}
use Rattle.move_phase_trials.proofs.tests.receiving.opening.Goals as goal

opened : {E : Type 0} (map : MapView) (start : List Rec) (w : Result WorldView E) → IsMap map → start ≡ entities_of map → IfOk w (λ w. (id : ℕ) → record_of w id ≡ find (λ r. r.id == id) start)
    → IfOk w (λ w. IsState map (state_of no_clients w.records))
opened map start (Err e) rules things records = tt
opened map start (Ok w) rules things records = opening-fits map w.records rules (λ id. records id ∙ ap (λ (s : List Rec). find (λ r. r.id == id) s) things)

pub returns : goal.returns
returns c = opened c.args.map.now c.entities.result.now c.new.result c.entities.ensures.rules c.entities.ensures.value c.new.ensures.records
