use Rattle.std.proofs.Common.{refl, arith, rules}
use Rattle.box_strips.proofs.PlaceBits.{common_more, place_within}
use Rattle.box_strips.proofs.bits.add_common.Goals as goal

pub loop-word-init : goal.loop-word-init
loop-word-init c = record { are = record { kept = λ place there. there; added = λ place below in_a in_b in_c in_d. absurd (omega (arith, below)) }; long = refl }

pub loop-word-preserved : goal.loop-word-preserved
loop-word-preserved c =
    let long = c.loop-word.invariant.long in
    record {
      are = common_more c.args.bits.now c.args.a.now c.args.b.now c.args.c.now c.args.d.now c.loop-word.bits c.loop-word.word (omega (arith, long, c.loop-word-test.true, c.requires.a)) c.loop-word.invariant.are;
      long = search (rules, long);
    }

pub returns-clause-kept : goal.returns-clause-kept
returns-clause-kept c = c.loop-word.invariant.are.kept

pub returns-clause-added : goal.returns-clause-added
returns-clause-added c place in_a in_b in_c in_d =
    let within = place_within c.args.a.now place in_a in
    c.loop-word.invariant.are.added place (omega (arith, within, c.loop-word-test.false)) in_a in_b in_c in_d
