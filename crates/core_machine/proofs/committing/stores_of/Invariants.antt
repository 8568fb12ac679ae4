use Rattle.std.proofs.Common.{◌≡◌, ◌+◌, ◌++◌, [], ◌∷◌, take, length, map}
use Rattle.entity_recs.specs.declared.effect.NewState.{NewState}
use Rattle.core_steps.specs.Cells.{State}
use Rattle.core_steps.specs.Encoding.{words_of}
use Rattle.core_steps.specs.Points as core_points
use Rattle.core_steps.specs.Points.{body_stores}
use Rattle.core_machine.specs.Points.{store_of}
use Rattle.core_machine.proofs.committing.stores_of.Given as goal

abbrev pub invariant-loop-new_state : goal.invariant-loop-new_state
invariant-loop-new_state l = record { stores : map store_of l.stores.items ≡ (core_points.Clear l.old ∷ (body_stores l.slot 0 (words_of l.effect.me) ++ (core_points.Put (State l.slot) l.effect.me.state ∷ []))) ++ map (λ (s : NewState). core_points.Put (State s.id) s.state) (take l.new_state-index l.new_state-items); few : length l.stores.items ≡ 7 + l.new_state-index }
