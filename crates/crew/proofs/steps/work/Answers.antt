use Rattle.std.proofs.Common.{subst, sym}
use Rattle.crew.proofs.Slots.{slot_of, put_of, got_of}
use Rattle.crew.proofs.steps.work.Goals as goal

pub slot_mut-requires : goal.slot_mut-requires
slot_mut-requires g c = (c.requires.table, (c.requires.begun.item, slot_of _ _ _ c.requires.begun.begun))

pub run-requires : goal.run-requires
run-requires g c =
    record { may = subst g.T.Task.may_run (got_of _ _ _ _ c.requires.begun.begun c.slot_mut.ensures.value) c.requires.begun.may }

pub returns-clause-worked : goal.returns-clause-worked
returns-clause-worked g c =
    let same = got_of _ _ _ _ c.requires.begun.begun c.slot_mut.ensures.value in
    record {
      before = c.requires.begun.item;
      after = c.run.new.self;
      changed = subst (λ x. g.T.Task.changes x c.run.new.self) (sym same) c.run.ensures.changed;
      worked = put_of _ _ _ _ c.requires.begun.begun;
    }
