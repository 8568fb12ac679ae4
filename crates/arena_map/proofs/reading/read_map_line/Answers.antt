use Rattle.std.proofs.Common.{arith}
use Rattle.std.proofs.lemmas.Grind.{common_steps}
use Rattle.arena_map.proofs.TextFaults.{found-line, only-line, no_word-fault, no_form-fault, out_of_limit-fault}
use Rattle.arena_map.proofs.reading.read_map_line.Goals as goal

pub returns-then-not-has_fields-clause-value : goal.returns-then-not-has_fields-clause-value
returns-then-not-has_fields-clause-value c = grind (arith, common_steps)

pub returns-then-not-has_fields-clause-only : goal.returns-then-not-has_fields-clause-only
returns-then-not-has_fields-clause-only c = only-line c.args.line.now _ (returns-then-not-has_fields-clause-value c)

pub returns-then-not-has_fields-clause-no_word : goal.returns-then-not-has_fields-clause-no_word
returns-then-not-has_fields-clause-no_word c = no_word-fault c.args.line.now _ (returns-then-not-has_fields-clause-value c)

pub returns-then-not-has_fields-clause-no_form : goal.returns-then-not-has_fields-clause-no_form
returns-then-not-has_fields-clause-no_form c = no_form-fault c.args.line.now _ (returns-then-not-has_fields-clause-value c)

pub returns-then-not-has_fields-clause-out_of_limit : goal.returns-then-not-has_fields-clause-out_of_limit
returns-then-not-has_fields-clause-out_of_limit c = out_of_limit-fault c.args.line.now _ (returns-then-not-has_fields-clause-value c)

pub returns-clause-value : goal.returns-clause-value
returns-clause-value c = grind (arith, common_steps)

pub returns-clause-found : goal.returns-clause-found
returns-clause-found c = found-line c.args.line.now c.ok_or.result (returns-clause-value c)

pub returns-clause-only : goal.returns-clause-only
returns-clause-only c = only-line c.args.line.now c.ok_or.result (returns-clause-value c)

pub returns-clause-no_word : goal.returns-clause-no_word
returns-clause-no_word c = no_word-fault c.args.line.now c.ok_or.result (returns-clause-value c)

pub returns-clause-no_form : goal.returns-clause-no_form
returns-clause-no_form c = no_form-fault c.args.line.now c.ok_or.result (returns-clause-value c)

pub returns-clause-out_of_limit : goal.returns-clause-out_of_limit
returns-clause-out_of_limit c = out_of_limit-fault c.args.line.now c.ok_or.result (returns-clause-value c)
