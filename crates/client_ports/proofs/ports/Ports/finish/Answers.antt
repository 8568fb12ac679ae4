use Rattle.std.proofs.Common.{refl, sym, ap, ◌∙◌, arith, add-one}
use Rattle.client_ports.specs.States.{State, state_of}
use Rattle.client_ports.specs.Finishing.{finished, finished_at, finished_up_to}
use Rattle.client_ports.proofs.Linking.{ended-start, ended-step, ended-all}
use Rattle.client_ports.proofs.ports.Ports.finish.Goals as goal

pub loop-slot-init : goal.loop-slot-init
unfolding finished_up_to
loop-slot-init c = record { so_far = refl; world = ended-start c.args.world.now c.args.self.now; tree = refl; live = c.requires; valid = λ map valid. valid }

pub loop-slot-preserved : goal.loop-slot-preserved
unfolding finished_up_to
loop-slot-preserved c =
    let old = state_of c.args.self.now c.args.world.now.records in
    record {
      so_far = c.finish_slot.ensures.finished ∙ ap (λ (s : State). finished_at s c.loop-slot.slot) c.loop-slot.invariant.so_far ∙ sym (ap (finished_up_to old) (add-one c.loop-slot.slot));
      world = ended-step c.args.world.now c.loop-slot.world c.finish_slot.new.world old (state_of c.loop-slot.self c.loop-slot.world.records) c.loop-slot.slot c.loop-slot.invariant.so_far c.loop-slot.invariant.world c.finish_slot.ensures.world;
      tree = c.finish_slot.ensures.tree ∙ c.loop-slot.invariant.tree;
      live = c.finish_slot.ensures.live;
      valid = λ map valid. c.finish_slot.ensures.valid map (c.loop-slot.invariant.valid map valid);
    }

pub returns-clause-finished : goal.returns-clause-finished
unfolding finished
returns-clause-finished c = c.loop-slot.invariant.so_far ∙ ap (finished_up_to (state_of c.args.self.now c.args.world.now.records)) (omega arith)

pub returns-clause-world : goal.returns-clause-world
returns-clause-world c = ended-all c.args.world.now c.loop-slot.world c.args.self.now c.loop-slot.slot (omega arith) c.loop-slot.invariant.world
