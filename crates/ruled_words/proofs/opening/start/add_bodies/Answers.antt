use Rattle.std.proofs.Common.{◌≡◌, ℕ, ◌+◌, ◌*◌, ap, ◌∙◌, arith}
use Rattle.core_steps.specs.declared.sizes.TheConstants.{FIRST_RECORD_WORD}
use Rattle.ruled_words.specs.Starts.{first_words}
use Rattle.ruled_words.proofs.FirstWords.{body_next}
use Rattle.ruled_words.proofs.opening.start.add_bodies.Goals as goal

pub loop-slot-preserved : goal.loop-slot-preserved
loop-slot-preserved c =
    c.in_ok-extend_from_slice.ensures.items
    ∙ body_next c.args.world.now c.loop-slot.slot c.loop-slot.words.items c.body_at_start.result (omega arith) c.loop-slot.invariant c.body_at_start.ensures.five c.body_at_start.ensures.words

pub returns : goal.returns
returns c =
    let all : c.loop-slot.slot ≡ 64 = omega (arith, c.loop-slot.auto.slot-end, c.loop-slot-test.false) in
    c.loop-slot.invariant ∙ ap (λ (n : ℕ). first_words c.args.world.now (FIRST_RECORD_WORD + 5 * n)) all
