use Rattle.std.proofs.Common.{◌≡◌, ◌+◌, ◌-◌, refl, arith, length}
use Rattle.transcript_check.proofs.Stating.{states-first, states-next}
use Rattle.transcript_check.proofs.mover.put_states.Goals as goal

pub loop-left-init : goal.loop-left-init
loop-left-init c = record { inside = omega arith; put = states-first (length c.args.states.now) c.args.states.now c.args.world.now.records refl }

pub loop-left-preserved : goal.loop-left-preserved
loop-left-preserved c =
    let inside = c.loop-left.invariant.inside in
    let some = c.loop-left-test.true in
    record {
      inside = omega (arith, inside);
      put = states-next (c.loop-left.left - 1) c.loop-left.left c.args.states.now _ _ c.args.world.now.records c.loop-left.world.records c.put_state.new.world.records
          (let next : c.loop-left.left ≡ c.loop-left.left - 1 + 1 = omega (arith, some) in next) (omega (arith, inside, some)) refl c.loop-left.invariant.put c.put_state.ensures;
    }
