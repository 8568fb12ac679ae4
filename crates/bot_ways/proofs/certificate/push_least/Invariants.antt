use Rattle.std.proofs.Common.{◌≡◌, ◌++◌, map, flat_map, take}
use Rattle.edge_io.specs.Fields.{field_text}
use Rattle.bot_ways.specs.PlanTexts.{least_field}
use Rattle.bot_ways.proofs.certificate.push_least.Given as goal

-- the text has the lengths so far
abbrev pub invariant-loop-length : goal.invariant-loop-length
invariant-loop-length l = l.text ≡ l.initial.text ++ flat_map field_text (map least_field (take l.length-index l.least))
