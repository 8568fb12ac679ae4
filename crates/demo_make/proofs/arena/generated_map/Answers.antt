use Rattle.std.proofs.Common.{arith, ◌≡◌, ◌∙◌, ap, sym, subst}
use Rattle.std.specs.Result.{OnOk}
use Rattle.arena_map.specs.Rules.{broken_at_first, broken_rule, with_line}
use Rattle.demo_make.proofs.Building.{first-unbroken, added-next, no-rule, map-next}
use Rattle.demo_make.proofs.arena.generated_map.Goals as goal

pub value_or_no_memory-requires : goal.value_or_no_memory-requires
value_or_no_memory-requires c =
    no-rule c.new.result (broken_at_first c.map_line.result) c.new.ensures.rule (first-unbroken c.map_line.result c.map_line.ensures.line)

pub add-requires-clause-no_arena : goal.add-requires-clause-no_arena
add-requires-clause-no_arena c =
    (added-next c.loop-index.index c.map_line-in-loop-index.result c.loop-index.auto.index (omega (arith, c.loop-index-test.true))
    c.map_line-in-loop-index.ensures.line).added

pub value_or_no_memory-requires-in-loop-index : goal.value_or_no_memory-requires-in-loop-index
value_or_no_memory-requires-in-loop-index c =
    let line = c.map_line-in-loop-index.result in
    let next = added-next c.loop-index.index line c.loop-index.auto.index (omega (arith, c.loop-index-test.true)) c.map_line-in-loop-index.ensures.line in
    no-rule c.add.result (broken_rule c.loop-index.map line) c.add.ensures.rule
    (ap (λ m. broken_rule m line) c.loop-index.invariant ∙ next.unbroken)

pub loop-index-preserved : goal.loop-index-preserved
loop-index-preserved c =
    let line = c.map_line-in-loop-index.result in
    let grown : c.add.new.self ≡ with_line c.loop-index.map line =
    subst (λ r. OnOk r (c.add.new.self ≡ with_line c.loop-index.map line)) c.in_ok-value_or_no_memory.ensures c.add.ensures.map in
    grown ∙ ap (λ m. with_line m line) c.loop-index.invariant
    ∙ sym (map-next c.loop-index.index line c.loop-index.auto.index c.map_line-in-loop-index.ensures.line)
