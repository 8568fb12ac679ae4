use Rattle.std.proofs.Common.{ℕ, Bool, ◌<◌, ◌^◌, ◌+◌, ◌&&◌, ◌==◌, sym, ◌∙◌, ap, subst, if◌then◌else◌}
use Rattle.areanode.proofs.Words.{word_of-below, word_none, word_next}
use Rattle.core_steps.specs.Nodes.{home}
use Rattle.core_steps.specs.Stands.{is_player}
use Rattle.core_seats.specs.Shown.{fixed_of}
use Rattle.core_machine.proofs.start.links_at_start.Goals as goal

pub with_top_bit-word-requires-clause-below : goal.with_top_bit-word-requires-clause-below
with_top_bit-word-requires-clause-below g c = subst (λ (n : ℕ). n < 2 ^ c.loop-slot.slot) (sym c.loop-slot.invariant) (word_of-below c.loop-slot.slot _)

pub loop-slot-init : goal.loop-slot-init
loop-slot-init g c = word_none _

pub loop-slot-preserved : goal.loop-slot-preserved
loop-slot-preserved g c =
    let F = fixed_of g.A.Action.meaning c.args.rules.now in
    let test : ℕ → Bool = λ slot. is_player F slot && (c.args.node == home F (F.start.record_of slot)) in
    c.with_top_bit-word.ensures
    ∙ ap (λ (b : Bool). (if b then 2 ^ c.loop-slot.slot else 0) + c.loop-slot.word) c.is_linked.ensures
    ∙ ap (λ (n : ℕ). (if test c.loop-slot.slot then 2 ^ c.loop-slot.slot else 0) + n) c.loop-slot.invariant
    ∙ sym (word_next c.loop-slot.slot test)
