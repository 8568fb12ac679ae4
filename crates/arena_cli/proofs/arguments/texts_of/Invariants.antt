-- The slices so far are those of the first texts.
use Rattle.std.proofs.Common.{◌≡◌, take, map, string_bytes}
use Rattle.arena_cli.proofs.arguments.texts_of.Given as goal

abbrev pub invariant-loop-text : goal.invariant-loop-text
invariant-loop-text l = map (λ slice. slice.now) l.slices.items ≡ map string_bytes (take l.text-index l.fn.texts)
